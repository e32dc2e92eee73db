-- Each block of a sent message is one group, and is read to what it was made of.
use Rattle.std.proofs.Common.{◌≡◌, ℕ, ◌-◌, ◌≤◌, ◌==◌, ◌&&◌, ◌⊎◌, inl, inr, Bool, true, not, List, [], ◌∷◌, ◌++◌, length, get_or, take, drop, Some, refl, sym, ap, ◌∙◌, append_assoc, append-nil, length-append, arith}
use Rattle.std.specs.Prelude.{codes, slice_index}
use Rattle.std.specs.Char.{is_ascii_digit, is_ascii_uppercase}
use Rattle.std.specs.Str.{all_ascii_digits}
use Rattle.std.specs.List.{flat_map, list_all}
use Rattle.std.proofs.lemmas.Bool.{and_parts, and_from, or_right, eqb-true}
use Rattle.std.proofs.lemmas.Bool.Decides.{nat_tests}
use Rattle.std.proofs.lemmas.List.{take_at, drop_at, drop_all, get_or_at, get_or_push, length_push, take-append-drop}
use Rattle.std.proofs.lemmas.List.Folds.{list_all-append}
use Rattle.corr_text.specs.Digits.{number_of, padded}
use Rattle.corr_text.specs.Lines.{lines_of}
use Rattle.corr_text.specs.Sets.{is_c_byte}
use Rattle.corr_text.proofs.laws.Number.{number_of-padded, length-padded}
use Rattle.corr_ids.specs.Address.{is_lt, lt_of, lt_text, IsLt}
use Rattle.corr_ids.specs.Bic.{IsBic}
use Rattle.corr_ids.specs.declared.bic.Bic.{Bic}
use Rattle.corr_ids.specs.declared.address.LtAddress.{LtAddress}
use Rattle.corr_ids.proofs.laws.Spelling.{lt-form, terminal-again}
use Rattle.fin_blocks.specs.declared.blocks.App.TheVariants.{Sent}
use Rattle.fin_blocks.specs.Forms.{app_of, basic_in, basic_of, is_basic, is_plain, is_sent, is_sent_length, sent_in}
use Rattle.fin_blocks.specs.Text.{crlf, ended, is_ended, text_in, text_of}
use Rattle.fin_blocks.specs.Sending.{IsText, lines_text, own_text, receiver_text, terminal_of}
use Rattle.fin_blocks.proofs.Between.{between-again, inside-again, inside-other}

-- ---- bytes without braces

abbrev is_no_brace : ℕ → Bool
is_no_brace b = not (b == 123) && not (b == 125)

plain-where : (test : ℕ → Bool) → ((b : ℕ) → test b ≡ true → is_no_brace b ≡ true) → (bs : List ℕ) → list_all test bs ≡ true → is_plain bs ≡ true
plain-where test each [] h = refl
plain-where test each (b ∷ bs) h =
    let p = and_parts (test b) (list_all test bs) h in
    and_from (is_no_brace b) (is_plain bs) (each b p.0) (plain-where test each bs p.1)

pub plain-both : (bs cs : List ℕ) → is_plain bs ≡ true → is_plain cs ≡ true → is_plain (bs ++ cs) ≡ true
plain-both bs cs h k = rw (list_all-append is_no_brace bs cs, h, k) refl

plain-digit : (b : ℕ) → is_ascii_digit b ≡ true → is_no_brace b ≡ true
plain-digit b h = grind (arith, nat_tests)

plain-capital : (b : ℕ) → is_ascii_uppercase b ≡ true → is_no_brace b ≡ true
plain-capital b h = grind (arith, nat_tests)

plain-c : (b : ℕ) → is_c_byte b ≡ true → is_no_brace b ≡ true
plain-c b h = grind (arith, nat_tests)

plain-digits : (ds : List ℕ) → all_ascii_digits ds ≡ true → is_plain ds ≡ true
plain-digits [] h = refl
plain-digits (d ∷ ds) h =
    let p = and_parts (is_ascii_digit d) (all_ascii_digits ds) h in
    and_from (is_no_brace d) (is_plain ds) (plain-digit d p.0) (plain-digits ds p.1)

-- ---- numbers of three digits

pub record IsThree (ds : List ℕ) (n : ℕ) : Type 0 where
  pub long : length ds ≡ 3
  pub plain : is_plain ds ≡ true
  pub number : number_of ds ≡ Some n

all-digits : (ds : List ℕ) (n : ℕ) → number_of ds ≡ Some n → all_ascii_digits ds ≡ true
all-digits ds n h = grind (arith, nat_tests)

pub three-digits : (n : ℕ) → n ≤ 999 → IsThree (padded 3 n) n
three-digits n h =
    let number = number_of-padded 3 n (omega (arith, h)) (omega arith) in
    record {
      long = length-padded 3 n (omega arith) (omega (arith, h)) (omega (arith, h));
      plain = plain-digits (padded 3 n) (all-digits (padded 3 n) n number);
      number = number;
    }

-- ---- addresses

record IsAddress (bs : List ℕ) (a : LtAddress) : Type 0 where
  long : length bs ≡ 12
  plain : is_plain bs ≡ true
  address : lt_of bs ≡ Some a

plain-address : (bs : List ℕ) → list_all is_ascii_uppercase (take 6 bs) ≡ true → list_all is_c_byte (drop 6 bs) ≡ true → is_plain bs ≡ true
plain-address bs h k =
    rw (← take-append-drop 6 bs)
    (plain-both (take 6 bs) (drop 6 bs) (plain-where is_ascii_uppercase plain-capital (take 6 bs) h) (plain-where is_c_byte plain-c (drop 6 bs) k))

spelled-address : (a : LtAddress) → IsLt a → IsAddress (lt_text a) a
unfolding is_lt
spelled-address a h =
    let bs : List ℕ = lt_text a in
    let form = lt-form a h in
    let p = and_parts ((length bs == 12) && list_all is_ascii_uppercase (take 6 bs)) (list_all is_c_byte (drop 6 bs)) form in
    let q = and_parts (length bs == 12) (list_all is_ascii_uppercase (take 6 bs)) p.0 in
    record { long = eqb-true (length bs) 12 q.0; plain = plain-address bs q.1 p.1; address = h }

-- ---- block 1

pub own-plain : (home : Bic) → IsBic home → is_plain (codes "1:F01" ++ lt_text (terminal_of home 65) ++ codes "0000000000") ≡ true
own-plain home h =
    let a = spelled-address (terminal_of home 65) (terminal-again home 65 h refl) in
    plain-both (codes "1:F01" ++ lt_text (terminal_of home 65)) (codes "0000000000") (plain-both (codes "1:F01") (lt_text (terminal_of home 65)) refl a.plain) refl

basic-again : (bs : List ℕ) (a : LtAddress) → length bs ≡ 12 → lt_of bs ≡ Some a → basic_in (codes "01" ++ (bs ++ codes "0000000000")) ≡ Some (record { version = codes "01"; own = a })
unfolding basic_in is_basic
basic-again bs a long address =
    let all : length (bs ++ codes "0000000000") ≡ 22 = omega (arith, long, length-append bs (codes "0000000000")) in
    rw (all, take_at bs (codes "0000000000") 12 long, drop_at bs (codes "0000000000") 12 long, address) refl

pub own-again : (home : Bic) → IsBic home → basic_of (Some (own_text home)) ≡ Some (record { version = codes "01"; own = terminal_of home 65 })
own-again home h =
    let bs : List ℕ = lt_text (terminal_of home 65) in
    let a = spelled-address (terminal_of home 65) (terminal-again home 65 h refl) in
    let same : own_text home ≡ codes "{1:F" ++ (codes "01" ++ (bs ++ codes "0000000000")) ++ codes "}" = simp append_assoc in
    rw (same, inside-again (codes "{1:F") (codes "01" ++ (bs ++ codes "0000000000"))) (basic-again bs (terminal_of home 65) a.long a.address)

-- ---- block 2

pub receiver-plain : (mt : ℕ) (to : Bic) → mt ≤ 999 → IsBic to → is_plain (codes "2:I" ++ padded 3 mt ++ lt_text (terminal_of to 88) ++ codes "N") ≡ true
receiver-plain mt to low h =
    let a = spelled-address (terminal_of to 88) (terminal-again to 88 h refl) in
    let n = three-digits mt low in
    let bs : List ℕ = lt_text (terminal_of to 88) in
    plain-both (codes "2:I" ++ padded 3 mt ++ bs) (codes "N") (plain-both (codes "2:I" ++ padded 3 mt) bs (plain-both (codes "2:I") (padded 3 mt) refl n.plain) a.plain) refl

sent-again : (ds bs : List ℕ) (mt : ℕ) (a : LtAddress) → IsThree ds mt → length bs ≡ 12 → lt_of bs ≡ Some a → sent_in (ds ++ bs ++ codes "N") ≡ Some (Sent mt a)
unfolding sent_in is_sent is_sent_length
sent-again ds bs mt a n long address =
    let whole : List ℕ = ds ++ bs ++ codes "N" in
    let front : length (ds ++ bs) ≡ 15 = omega (arith, n.long, long, length-append ds bs) in
    let all : length whole ≡ 16 = omega (arith, front, length-append (ds ++ bs) (codes "N")) in
    let priority : get_or whole 15 0 ≡ 78 = get_or_at (ds ++ bs) 78 [] 0 15 front in
    let none : drop 16 whole ≡ [] = drop_all 16 whole (omega (arith, all)) in
    let first : take 3 whole ≡ ds = ap (take 3) (append_assoc ds bs (codes "N")) ∙ take_at ds (bs ++ codes "N") 3 n.long in
    let after : drop 3 whole ≡ bs ++ codes "N" = ap (drop 3) (append_assoc ds bs (codes "N")) ∙ drop_at ds (bs ++ codes "N") 3 n.long in
    rw (all, priority, none, first, after, take_at bs (codes "N") 12 long, n.number, address) refl

pub receiver-again : (mt : ℕ) (to : Bic) → mt ≤ 999 → IsBic to → app_of (Some (receiver_text mt to)) ≡ Some (Sent mt (terminal_of to 88))
receiver-again mt to low h =
    let bs : List ℕ = lt_text (terminal_of to 88) in
    let a = spelled-address (terminal_of to 88) (terminal-again to 88 h refl) in
    let held : List ℕ = padded 3 mt ++ bs ++ codes "N" in
    let same : receiver_text mt to ≡ codes "{2:I" ++ held ++ codes "}" = simp append_assoc in
    rw (same, inside-other (codes "{2:O") (codes "{2:I" ++ held ++ codes "}") refl, inside-again (codes "{2:I") held)
    (sent-again (padded 3 mt) bs mt (terminal_of to 88) (three-digits mt low) a.long a.address)

-- ---- block 4

pub lines-plain : (text : List ℕ) → IsText text → is_plain (codes "4:" ++ crlf ++ text ++ codes "-") ≡ true
lines-plain text h = plain-both (codes "4:" ++ crlf ++ text) (codes "-") (plain-both (codes "4:" ++ crlf) text refl h.plain) refl

-- lines end with a line feed
last-feed : (lines : List (List ℕ)) → (flat_map ended lines ≡ []) ⊎ ((bs : List ℕ) × (flat_map ended lines ≡ bs ++ 10 ∷ []))
last-feed [] = inl refl
last-feed (line ∷ lines) =
    elim (last-feed lines) [
      | inl none ↦ inr (line ++ 13 ∷ [], rw none (append-nil (line ++ crlf) ∙ sym (append_assoc line (13 ∷ []) (10 ∷ []))))
      | inr some ↦ inr (line ++ crlf ++ some.0, rw some.1 (sym (append_assoc (line ++ crlf) some.0 (10 ∷ []))))
    ]

feed-ends : (bs : List ℕ) → is_ended (bs ++ 10 ∷ []) ≡ true
feed-ends bs =
    let at : length bs ≡ length (bs ++ 10 ∷ []) - 1 = omega (arith, length_push bs 10) in
    let last : get_or (bs ++ 10 ∷ []) (length (bs ++ 10 ∷ []) - 1) 0 ≡ 10 = get_or_push bs 10 0 (length (bs ++ 10 ∷ []) - 1) at in
    or_right (length (bs ++ 10 ∷ []) == 0) (slice_index (bs ++ 10 ∷ []) (length (bs ++ 10 ∷ []) - 1) == 10) (rw last refl)

lines-end : (text : List ℕ) → text_in text ≡ text → is_ended text ≡ true
unfolding text_in
lines-end text h =
    elim (last-feed (lines_of text)) [
      | inl none ↦ rw (sym h ∙ none) refl
      | inr some ↦ rw (sym h ∙ some.1) (feed-ends some.0)
    ]

pub lines-again : (text : List ℕ) → IsText text → text_of (Some (lines_text text)) ≡ Some text
unfolding text_of
lines-again text h = rw (between-again (codes "{4:" ++ crlf) text (codes "-}"), lines-end text h.lines, h.lines) refl
