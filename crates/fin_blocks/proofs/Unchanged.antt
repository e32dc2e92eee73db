-- Lines that end with CR LF already.
use Rattle.std.proofs.Common.{◌≡◌, ◌≢◌, ◌<◌, ◌≤◌, ℕ, zero, suc, ◌+◌, ◌-◌, ◌==◌, ◌&&◌, not, Bool, true, false, cond, List, [], ◌∷◌, length, drop, get_or, refl, sym, ap, subst, ◌∙◌, arith}
use Rattle.std.specs.Prelude.{◌||◌}
use Rattle.std.specs.List.{flat_map}
use Rattle.std.proofs.lemmas.Bool.{and_parts, false≢true}
use Rattle.std.proofs.lemmas.Bool.Decides.{nat_tests}
use Rattle.std.proofs.lemmas.List.{drop_all, drop_more, nil_from_length}
use Rattle.corr_text.specs.Lines.{lines_of, with_byte as with_line_byte}
use Rattle.fin_blocks.specs.Text.{ended, is_ended, text_in}

-- no line feed stands after another byte than a carriage return
abbrev pub crlf_alone : ℕ → List ℕ → Bool
crlf_alone before [] = true
crlf_alone before (b ∷ bs) = not ((b == 10) && not (before == 13)) && crlf_alone b bs

-- a line feed stands last, or nothing
abbrev ends : List ℕ → Bool
ends [] = true
ends (b ∷ []) = b == 10
ends (b ∷ c ∷ cs) = ends (c ∷ cs)

-- ---- a text of one byte or more has a line

with-some : (b : ℕ) (lines : List (List ℕ)) → with_line_byte b lines ≢ []
with-some b [] e = absurd (cc e)
with-some b (line ∷ lines) e = absurd (cc e)

some-case : (feed return : Bool) (b : ℕ) (lines : List (List ℕ)) → (return ≡ true → lines ≢ [])
    → cond feed ([] ∷ lines) (cond return lines (with_line_byte b lines)) ≢ []
some-case true return b lines some e = absurd (cc e)
some-case false true b lines some e = some refl e
some-case false false b lines some e = with-some b lines e

has-line : (b : ℕ) (bs : List ℕ) → lines_of (b ∷ bs) ≢ []
has-line b [] = some-case (b == 10) ((b == 13) && false) b [] (λ h. absurd (false≢true (and_parts (b == 13) false h).1))
has-line b (c ∷ cs) = some-case (b == 10) ((b == 13) && (c == 10)) b (lines_of (c ∷ cs)) (λ h. has-line c cs)

with-first : (b : ℕ) (lines : List (List ℕ)) → lines ≢ [] → flat_map ended (with_line_byte b lines) ≡ b ∷ flat_map ended lines
with-first b [] some = absurd (some refl)
with-first b (line ∷ lines) some = refl

-- ---- the lines of such a text, with their ends, are the text

no-feed : (feed return rest : Bool) → (not (feed && not return) && rest) ≡ true → return ≡ false → feed ≡ false
no-feed true true rest h e = absurd (false≢true (sym e))
no-feed true false rest h e = absurd (false≢true h)
no-feed false return rest h e = refl

same-start : (p q : ℕ) (bs : List ℕ) → (p == 13) ≡ false → (q == 13) ≡ false → crlf_alone p bs ≡ true → crlf_alone q bs ≡ true
same-start p q [] a b h = refl
same-start p q (c ∷ cs) a b h = subst (λ r. (not ((c == 10) && not r) && crlf_alone c cs) ≡ true) (a ∙ sym b) h

later-end : (b : ℕ) (bs : List ℕ) → ends (b ∷ bs) ≡ true → ends bs ≡ true
later-end b [] h = refl
later-end b (c ∷ cs) h = h

abbrev IsSame : List ℕ → Type 0
IsSame bs = crlf_alone 0 bs ≡ true → ends bs ≡ true → flat_map ended (lines_of bs) ≡ bs

same-pair : (return feed : Bool) (b c : ℕ) (cs : List ℕ) → (b == 13) ≡ return → (c == 10) ≡ feed → (b == 10) ≡ false
    → crlf_alone b (c ∷ cs) ≡ true → ends (c ∷ cs) ≡ true → IsSame cs → IsSame (c ∷ cs) → flat_map ended (lines_of (b ∷ c ∷ cs)) ≡ b ∷ c ∷ cs
same-pair true true b c cs is_return is_feed other alone last after ahead =
    let b-is : b ≡ 13 = grind (arith, nat_tests) in
    let c-is : c ≡ 10 = grind (arith, nat_tests) in
    let rest : crlf_alone 0 cs ≡ true = same-start c 0 cs (ap (λ n. n == 13) c-is) refl (and_parts (not ((c == 10) && not (b == 13))) (crlf_alone c cs) alone).1 in
    rw (other, is_return, is_feed) (ap (λ (bs : List ℕ). 13 ∷ 10 ∷ bs) (after rest (later-end c cs last)) ∙ ap (λ n. n ∷ 10 ∷ cs) (sym b-is) ∙ ap (λ n. b ∷ n ∷ cs) (sym c-is))
same-pair true false b c cs is_return is_feed other alone last after ahead =
    let rest : crlf_alone 0 (c ∷ cs) ≡ true = rw is_feed (and_parts (not ((c == 10) && not (b == 13))) (crlf_alone c cs) alone).1 in
    let apart : ((b == 13) && (c == 10)) ≡ false = rw (is_return, is_feed) refl in
    rw (other, apart) (with-first b (lines_of (c ∷ cs)) (has-line c cs) ∙ ap (λ (bs : List ℕ). b ∷ bs) (ahead rest last))
same-pair false feed b c cs is_return is_feed other alone last after ahead =
    let rest : crlf_alone 0 (c ∷ cs) ≡ true = same-start b 0 (c ∷ cs) is_return refl alone in
    rw (other, is_return) (with-first b (lines_of (c ∷ cs)) (has-line c cs) ∙ ap (λ (bs : List ℕ). b ∷ bs) (ahead rest last))

same : (bs : List ℕ) → IsSame bs
same [] alone last = refl
same (b ∷ []) alone last = absurd (false≢true (sym (no-feed (b == 10) false true alone refl) ∙ last))
same (b ∷ c ∷ cs) alone last =
    same-pair (b == 13) (c == 10) b c cs refl refl (no-feed (b == 10) false (crlf_alone b (c ∷ cs)) alone refl)
    (and_parts (not ((b == 10) && true)) (crlf_alone b (c ∷ cs)) alone).1 last (same cs) (same (c ∷ cs))

to-ends : (b : ℕ) (bs : List ℕ) → get_or (b ∷ bs) (length bs) 0 ≡ 10 → ends (b ∷ bs) ≡ true
to-ends b [] last = rw last refl
to-ends b (c ∷ cs) last = to-ends c cs last

last-is : (b : ℕ) (bs : List ℕ) → is_ended (b ∷ bs) ≡ true → get_or (b ∷ bs) (length bs) 0 ≡ 10
last-is b bs h =
    let place : length (b ∷ bs) - 1 ≡ length bs = omega arith in
    ap (λ i. get_or (b ∷ bs) i 0) (sym place) ∙ grind (arith, nat_tests)

pub unchanged : (bs : List ℕ) → crlf_alone 0 bs ≡ true → is_ended bs ≡ true → text_in bs ≡ bs
unfolding text_in
unchanged [] alone last = refl
unchanged (b ∷ bs) alone last = same (b ∷ bs) alone (to-ends b bs (last-is b bs last))

-- ---- byte by byte

-- the byte before a place
abbrev pub before : List ℕ → ℕ → ℕ
before bs zero = 0
before bs (suc i) = get_or bs i 0

before-is : (bs : List ℕ) (i : ℕ) → 0 < i → before bs i ≡ get_or bs (i - 1) 0
before-is bs zero some = absurd (omega (arith, some))
before-is bs (suc i) some = let place : i ≡ suc i - 1 = omega arith in ap (λ k. get_or bs k 0) place

after-first : (bs : List ℕ) (i : ℕ) → before bs (i + 1) ≡ get_or bs i 0
after-first bs i = let next : i + 1 ≡ suc i = omega arith in ap (before bs) next

alone-more : (bs : List ℕ) (i : ℕ) → i < length bs → ((get_or bs i 0 == 10) && not (before bs i == 13)) ≡ false
    → crlf_alone (before bs i) (drop i bs) ≡ crlf_alone (before bs (i + 1)) (drop (i + 1) bs)
alone-more bs i lt good = rw (drop_more bs i 0 lt, good) (ap (λ p. crlf_alone p (drop (i + 1) bs)) (sym (after-first bs i)))

-- a text without bytes has no line feed
pub none-alone : (bs : List ℕ) → length bs ≡ 0 → crlf_alone 0 bs ≡ true
none-alone bs none = ap (crlf_alone 0) (nil_from_length bs none)

-- the first byte is no line feed
pub first-alone : (bs : List ℕ) → 0 < length bs → (get_or bs 0 0 == 10) ≡ false → crlf_alone (before bs 1) (drop 1 bs) ≡ crlf_alone 0 bs
first-alone bs some calm = sym (alone-more bs 0 some (rw calm refl))

-- one byte more, where the bytes so far are left out if a line feed stood alone among them
pub alone-further : (bs : List ℕ) (i : ℕ) (stray : Bool) → 0 < i → i < length bs → (stray || ((get_or bs i 0 == 10) && not (get_or bs (i - 1) 0 == 13))) ≡ false
    → (stray ≡ false → crlf_alone (before bs i) (drop i bs) ≡ crlf_alone 0 bs) → crlf_alone (before bs (i + 1)) (drop (i + 1) bs) ≡ crlf_alone 0 bs
alone-further bs i true some lt calm so-far = absurd (false≢true (sym calm))
alone-further bs i false some lt calm so-far = sym (alone-more bs i lt (rw (before-is bs i some) calm)) ∙ so-far refl

-- at the end
pub all-alone : (bs : List ℕ) (at : ℕ) (stray : Bool) → length bs ≤ at → not stray ≡ true
    → (stray ≡ false → crlf_alone (before bs at) (drop at bs) ≡ crlf_alone 0 bs) → crlf_alone 0 bs ≡ true
all-alone bs at true end calm so-far = absurd (false≢true calm)
all-alone bs at false end calm so-far = sym (so-far refl) ∙ ap (crlf_alone (before bs at)) (drop_all at bs end)
