-- A generated day is a file of its messages, and of no others.
use Rattle.std.proofs.Common.{◌≡◌, ℕ, zero, suc, ◌+◌, ◌-◌, ◌*◌, ◌<◌, ◌≤◌, Bool, true, false, List, [], ◌∷◌, ◌++◌, length, take, drop, Some, Result, Ok, nat_le, refl, sym, ap, ◌∙◌, subst, arith, add-one, append_assoc, length-append}
use Rattle.std.specs.Prelude.{codes, not}
use Rattle.std.specs.Char.{is_ascii_digit}
use Rattle.std.specs.List.{list_all}
use Rattle.std.specs.Str.{all_ascii_digits}
use Rattle.std.proofs.lemmas.Bool.{and_parts}
use Rattle.std.proofs.lemmas.Bool.Decides.{nat_tests}
use Rattle.corr_text.specs.Braces.{depth_after, is_brace}
use Rattle.corr_text.specs.Digits.{number_of, padded}
use Rattle.corr_text.specs.First.{check, ◌>>=◌}
use Rattle.corr_text.proofs.laws.Number.{length-padded, number_of-padded}
use Rattle.corr_money.specs.Amounts.{amount_end, amount_of, amount_text, is_comma_number}
use Rattle.corr_money.specs.declared.amount.Minor.{Minor}
use Rattle.corr_money.specs.declared.fault.AmountFault.TheVariants.{T40, T43}
use Rattle.corr_money.proofs.laws.Written.{reads_written}
use Rattle.fin_frame.specs.File.{IsCutInto, IsFileOf, IsGap, IsGroupTo, IsMessage, IsMessageTo, agrees, lead, left_open, most_bytes}
use Rattle.fin_frame.specs.File.IsMessageTo.{head, next}
use Rattle.fin_frame.specs.File.IsFileOf.{start, more}
use Rattle.fin_frame.proofs.laws.Showing.{cut-comes}
use Rattle.corr_report.specs.declared.generator.Kind.{Kind}
use Rattle.corr_report.specs.declared.generator.Kind.TheVariants.{Euros, PassedOn, Yen}
use Rattle.corr_report.specs.Generated.{generated_ccy, generated_decimals, with_line_end, generated_of, generated_texts, generated_heading, generated_kind, generated_minor, most_generated, generated_number, generated_parties, generated_sender, generated_terms, generated_text}
use Rattle.corr_report.proofs.laws.Days.{generated_more, text_at, texts_more}

-- bytes without braces
abbrev pub is_quiet : ℕ → Bool
is_quiet b = not (is_brace b)

abbrev pub IsQuiet : List ℕ → Type 0
IsQuiet bs = list_all is_quiet bs ≡ true

quiet_depth : (d b : ℕ) → is_quiet b ≡ true → depth_after d b ≡ d
quiet_depth d b h = grind (arith, nat_tests)

-- they leave open what is open
quiet_skip : (d : ℕ) (xs ys : List ℕ) → IsQuiet xs → left_open (suc d) (xs ++ ys) ≡ left_open (suc d) ys
quiet_skip d [] ys h = refl
quiet_skip d (x ∷ xs) ys h =
    let both = and_parts (is_quiet x) (list_all is_quiet xs) h in
    ap (λ k. left_open k (xs ++ ys)) (quiet_depth (suc d) x both.0) ∙ quiet_skip d xs ys both.1

-- ---- the groups of a message with these digits of its number and this amount

first : List ℕ → List ℕ
first p = codes "{1:F01HOMEUS33AXXX0001" ++ (p ++ codes "}")

second : Kind → List ℕ → List ℕ
second kind p = codes "{2:O1031200240603" ++ (generated_sender kind ++ (codes "AXXX0001" ++ (p ++ codes "2406031205N}")))

fields : Kind → List ℕ → List ℕ → List ℕ
fields kind p a =
    codes "{4:" ++ 13 ∷ 10 ∷ codes ":20:G" ++ (p ++ (13 ∷ 10 ∷ codes ":23B:CRED" ++ 13 ∷ 10 ∷ codes ":32A:240603" ++ (generated_ccy kind ++ (a ++ (13 ∷ 10 ∷ generated_parties kind ++ codes "-}")))))

first_group : (p : List ℕ) → IsQuiet p → IsGroupTo 0 (first p)
unfolding first
first_group p q = (refl, quiet_skip 0 p (codes "}") q)

second_group : (kind : Kind) (p : List ℕ) → IsQuiet p → IsGroupTo 0 (second kind p)
unfolding second
second_group Euros p q = (refl, quiet_skip 0 p (codes "2406031205N}") q)
second_group PassedOn p q = (refl, quiet_skip 0 p (codes "2406031205N}") q)
second_group Yen p q = (refl, quiet_skip 0 p (codes "2406031205N}") q)

fields_group : (kind : Kind) (p a : List ℕ) → IsQuiet p → IsQuiet a → IsGroupTo 0 (fields kind p a)
unfolding fields generated_parties
fields_group Euros p a q r = (refl, quiet_skip 0 p _ q ∙ quiet_skip 0 a _ r)
fields_group PassedOn p a q r = (refl, quiet_skip 0 p _ q ∙ quiet_skip 0 a _ r)
fields_group Yen p a q r = (refl, quiet_skip 0 p _ q ∙ quiet_skip 0 a _ r)

second_other : (kind : Kind) (p : List ℕ) → agrees lead (second kind p) ≡ false
unfolding second
second_other kind p = refl

fields_other : (kind : Kind) (p a : List ℕ) → agrees lead (fields kind p a) ≡ false
unfolding fields
fields_other kind p a = refl

-- a message of these groups
message_of : (kind : Kind) (p a : List ℕ) → IsQuiet p → IsQuiet a → IsMessageTo 0 (first p ++ second kind p ++ fields kind p a)
unfolding first
message_of kind p a q r =
    next (first p ++ second kind p) (fields kind p a) (next (first p) (second kind p) (head (first_group p q) refl) (second_group kind p q) (second_other kind p)) (fields_group kind p a q r) (fields_other kind p a)

regroup : (l1 p r1 r2 s l3 r4 r5 e l5 l6 l7 y a q z : List ℕ)
    → ((l1 ++ p ++ (r1 ++ r2) ++ s ++ l3 ++ p ++ (r4 ++ r5)) ++ e) ++ (((l5 ++ p) ++ e) ++ (l6 ++ e) ++ ((l7 ++ y ++ a) ++ e)) ++ q ++ z
    ≡ (l1 ++ (p ++ r1)) ++ (r2 ++ (s ++ (l3 ++ (p ++ r4)))) ++ (r5 ++ (e ++ (l5 ++ (p ++ (e ++ (l6 ++ (e ++ (l7 ++ (y ++ (a ++ (e ++ (q ++ z))))))))))))
regroup l1 p r1 r2 s l3 r4 r5 e l5 l6 l7 y a q z = simp append_assoc

parts : (kind : Kind) (p a : List ℕ)
    → with_line_end (codes "{1:F01HOMEUS33AXXX0001" ++ p ++ codes "}{2:O1031200240603" ++ generated_sender kind ++ codes "AXXX0001" ++ p ++ codes "2406031205N}{4:")
    ++ (with_line_end (codes ":20:G" ++ p) ++ with_line_end (codes ":23B:CRED") ++ with_line_end (codes ":32A:240603" ++ generated_ccy kind ++ a)) ++ generated_parties kind ++ codes "-}"
    ≡ first p ++ second kind p ++ fields kind p a
unfolding first second fields
parts kind p a =
    regroup (codes "{1:F01HOMEUS33AXXX0001") p (codes "}") (codes "{2:O1031200240603") (generated_sender kind) (codes "AXXX0001") (codes "2406031205N}") (codes "{4:") (13 ∷ 10 ∷ []) (codes ":20:G") (codes ":23B:CRED") (codes ":32A:240603") (generated_ccy kind) a (generated_parties kind) (codes "-}")

text_is : (i minor : ℕ) → generated_text i minor ≡ first (padded 6 i) ++ second (generated_kind i) (padded 6 i) ++ fields (generated_kind i) (padded 6 i) (amount_text (generated_decimals (generated_kind i)) minor)
unfolding generated_text generated_heading generated_terms
text_is i minor = parts (generated_kind i) (padded 6 i) (amount_text (generated_decimals (generated_kind i)) minor)

-- ---- their lengths

first_length : (p : List ℕ) → length (first p) ≤ 100 + length p
unfolding first
first_length p =
    let e = length-append (codes "{1:F01HOMEUS33AXXX0001") (p ++ codes "}") in
    let f = length-append p (codes "}") in
    omega (arith, e, f)

second_length : (kind : Kind) (p : List ℕ) → length (second kind p) ≤ 100 + length p
unfolding second
second_length Euros p = let e = length-append p (codes "2406031205N}") in omega (arith, e)
second_length PassedOn p = let e = length-append p (codes "2406031205N}") in omega (arith, e)
second_length Yen p = let e = length-append p (codes "2406031205N}") in omega (arith, e)

fields_length : (kind : Kind) (p a : List ℕ) → length (fields kind p a) ≤ 300 + length p + length a
unfolding fields generated_parties
fields_length Euros p a = simp length-append (omega arith)
fields_length PassedOn p a = simp length-append (omega arith)
fields_length Yen p a = simp length-append (omega arith)

short_message : (kind : Kind) (p a : List ℕ) → length p ≤ 19 → length a ≤ 15 → length (first p ++ second kind p ++ fields kind p a) ≤ most_bytes
short_message kind p a few small =
    let e = length-append (first p ++ second kind p) (fields kind p a) in
    let f = length-append (first p) (second kind p) in
    omega (arith, e, f, first_length p, second_length kind p, fields_length kind p a)

-- ---- a message of a day

digits_quiet : (bs : List ℕ) → all_ascii_digits bs ≡ true → IsQuiet bs
digits_quiet [] e = refl
digits_quiet (b ∷ bs) e =
    let both = and_parts (is_ascii_digit b) (all_ascii_digits bs) e in
    let here : is_quiet b ≡ true = grind (arith, nat_tests) in
    rw (here, digits_quiet bs both.1) refl

number_digits : (bs : List ℕ) (n : ℕ) → number_of bs ≡ Some n → all_ascii_digits bs ≡ true
number_digits bs n e = grind (arith, nat_tests)

pub record Quiet (bs : List ℕ) (most : ℕ) : Type 0 where
  pub quiet : IsQuiet bs
  pub short : length bs ≤ most

number_quiet : (i : ℕ) → i ≤ most_generated → Quiet (padded 6 i) 19
number_quiet i few =
    let read = number_of-padded 6 i (omega arith) (omega arith) in
    let digits = number_digits (padded 6 i) i read in
    record { quiet = digits_quiet (padded 6 i) digits; short = omega (arith, length-padded 6 i (omega arith) (omega arith) (omega arith)) }

quiet_join : (xs ys : List ℕ) → IsQuiet xs → IsQuiet ys → IsQuiet (xs ++ ys)
quiet_join [] ys p q = q
quiet_join (x ∷ xs) ys p q =
    let both = and_parts (is_quiet x) (list_all is_quiet xs) p in
    rw (both.0, quiet_join xs ys both.1 q) refl

quiet_take : (k : ℕ) (bs : List ℕ) → IsQuiet bs → IsQuiet (take k bs)
quiet_take zero [] q = refl
quiet_take zero (b ∷ bs) q = refl
quiet_take (suc k) [] q = refl
quiet_take (suc k) (b ∷ bs) q =
    let both = and_parts (is_quiet b) (list_all is_quiet bs) q in
    rw (both.0, quiet_take k bs both.1) refl

quiet_drop : (k : ℕ) (bs : List ℕ) → IsQuiet bs → IsQuiet (drop k bs)
quiet_drop zero [] q = refl
quiet_drop zero (b ∷ bs) q = q
quiet_drop (suc k) [] q = refl
quiet_drop (suc k) (b ∷ bs) q = quiet_drop k bs (and_parts (is_quiet b) (list_all is_quiet bs) q).1

quiet_amount : (decimals n : ℕ) → decimals ≤ 4 → n < amount_end → IsQuiet (amount_text decimals n)
unfolding amount_text
quiet_amount decimals n few small =
    let ds = padded (decimals + 1) n in
    let digits = number_digits ds n (number_of-padded (decimals + 1) n (omega (arith, small)) (omega (arith, few))) in
    let quiet = digits_quiet ds digits in
    let k = length ds - decimals in
    quiet_join (take k ds) (44 ∷ drop k ds) (quiet_take k ds quiet) (quiet_drop k ds quiet)

passed : {A F : Type 0} (b : Bool) (fault : F) (others : Result A F) (x : A) → (check b fault >>= λ _. others) ≡ Ok x → (b ≡ true) × (others ≡ Ok x)
passed true fault others x e = (refl, e)
passed false fault others x e = absurd (cc e)

short_amount : (decimals : ℕ) (bs : List ℕ) (m : Minor) → amount_of decimals bs ≡ Ok m → nat_le (length bs) 15 ≡ true
unfolding amount_of
short_amount decimals bs m e = (passed (nat_le (length bs) 15) T43 _ m (passed (is_comma_number bs) T40 _ m e).1).0

amount_quiet : (decimals n : ℕ) → decimals ≤ 4 → n < amount_end → Quiet (amount_text decimals n) 15
amount_quiet decimals n few small =
    let short : nat_le (length (amount_text decimals n)) 15 ≡ true = short_amount decimals (amount_text decimals n) (record { 0 = n }) (reads_written decimals n few small) in
    record { quiet = quiet_amount decimals n few small; short = grind (arith, nat_tests) }

few_decimals : (kind : Kind) → generated_decimals kind ≤ 4
few_decimals Euros = omega arith
few_decimals PassedOn = omega arith
few_decimals Yen = omega arith

text_short : (seed i : ℕ) → i ≤ most_generated → length (text_at seed i) ≤ 600
text_short seed i few =
    let p = padded 6 i in
    let kind = generated_kind i in
    let a = amount_text (generated_decimals kind) (generated_minor (generated_number seed i)) in
    let number = number_quiet i few in
    let amount = amount_quiet (generated_decimals kind) (generated_minor (generated_number seed i)) (few_decimals kind) (omega arith) in
    let e = length-append (first p ++ second kind p) (fields kind p a) in
    let f = length-append (first p) (second kind p) in
    omega (arith, ap length (text_is i (generated_minor (generated_number seed i))), e, f, first_length p, second_length kind p, fields_length kind p a, number.short, amount.short)

message_is : (seed i : ℕ) → i ≤ most_generated → IsMessage (text_at seed i)
message_is seed i few =
    let p = padded 6 i in
    let kind = generated_kind i in
    let a = amount_text (generated_decimals kind) (generated_minor (generated_number seed i)) in
    let number = number_quiet i few in
    let amount = amount_quiet (generated_decimals kind) (generated_minor (generated_number seed i)) (few_decimals kind) (omega arith) in
    subst IsMessage (sym (text_is i (generated_minor (generated_number seed i)))) (message_of kind p a number.quiet amount.quiet, short_message kind p a number.short amount.short)

-- ---- the day

dollar : IsGap 1 (codes "$")
dollar = (refl, omega arith)

pub day_file : (count seed : ℕ) → count ≤ most_generated → IsCutInto (generated_of count seed) (generated_texts count seed)
day_file zero seed few = ([], start (refl, omega arith))
day_file (suc count) seed few =
    let next : count + 1 ≡ suc count = add-one count in
    let before = day_file count seed (omega arith) in
    let here : 1 + count ≡ suc count = omega arith in
    let grown = more (generated_of count seed) (text_at seed (suc count)) (codes "$") (generated_texts count seed) before.1 (message_is seed (suc count) few) dollar in
    let file : generated_of (suc count) seed ≡ generated_of count seed ++ text_at seed (suc count) ++ codes "$" =
    ap (λ k. generated_of k seed) (sym next) ∙ generated_more count (suc count) seed here ∙ sym (append_assoc (generated_of count seed) (text_at seed (suc count)) (codes "$")) in
    let texts : generated_texts (suc count) seed ≡ generated_texts count seed ++ text_at seed (suc count) ∷ [] =
    ap (λ k. generated_texts k seed) (sym next) ∙ texts_more count (suc count) seed here in (
      codes "$",
      subst (λ (f : List ℕ). IsFileOf f (generated_texts (suc count) seed) (codes "$")) (sym file)
          (subst (λ (ts : List (List ℕ)). IsFileOf (generated_of count seed ++ text_at seed (suc count) ++ codes "$") ts (codes "$")) (sym texts) grown),
    )

-- the file of a generated day is cut into its messages and into no others
pub day_cut : (count seed : ℕ) (cut : List (List ℕ)) → count ≤ most_generated → IsCutInto (generated_of count seed) cut → cut ≡ generated_texts count seed
day_cut count seed cut few is = sym (cut-comes is).all ∙ (cut-comes (day_file count seed few)).all

-- a day takes at most 601 bytes a message
pub day_short : (count seed : ℕ) → count ≤ most_generated → length (generated_of count seed) ≤ count * 601
day_short zero seed few = omega arith
day_short (suc count) seed few =
    let next : count + 1 ≡ suc count = add-one count in
    let here : 1 + count ≡ suc count = omega arith in
    let text = text_at seed (suc count) in
    let file : generated_of (suc count) seed ≡ generated_of count seed ++ (text ++ codes "$") = ap (λ k. generated_of k seed) (sym next) ∙ generated_more count (suc count) seed here in
    omega (arith, ap length file, length-append (generated_of count seed) (text ++ codes "$"), length-append text (codes "$"), day_short count seed (omega (arith, few)), text_short seed (suc count) few)
