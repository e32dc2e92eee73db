-- The records of a text are those that reads in turn give.
use Rattle.std.proofs.Common.{◌≡◌, ℕ, zero, suc, ◌+◌, ◌≤◌, ◌<◌, Bool, true, false, cond, List, [], ◌∷◌, ◌++◌, length, Option, Some, None, refl, sym, ap, ◌∙◌, arith, ◌==◌, length-append, nat_le}
use Rattle.std.proofs.lemmas.Bool.{le-leb, lt-leb}
use Rattle.std.proofs.lemmas.Bool.Decides.{nat_tests}
use Rattle.std.proofs.lemmas.List.{append-nil}
use Rattle.ref_tables.specs.Rows.{Cells, rows_of, rows_within, up_to}
use Rattle.csv.specs.Machine.{Read, next_record, step, is_end, ends_at_end, in_field, start_field, start_record, after_end, fields_after, field_after, carriage_return}
use Rattle.csv.specs.Reading.{records, records_from, Reached, default_config}
use Rattle.csv.specs.declared.parser.Action.{Action}
use Rattle.csv.specs.declared.parser.Action.TheVariants as act
use Rattle.csv.specs.declared.parser.Config.{Config}
use Rattle.csv.specs.declared.parser.State.{State}
use Rattle.csv.specs.declared.parser.State.TheVariants as st
use Rattle.csv.specs.declared.parser.Terminator.{Terminator}
use Rattle.csv.specs.declared.parser.Terminator.TheVariants as term

-- where a step ends a record, no other has begun
record StartsAfter (p : State × Action) : Type 0 where
  starts : is_end p.1 ≡ true → ends_at_end p.0 ≡ false

goes-on : (s : State) (a : Action) → is_end a ≡ false → StartsAfter (s, a)
goes-on s a e = record { starts = λ h. absurd (cc) }

choose : (b : Bool) {p q : State × Action} → StartsAfter p → StartsAfter q → StartsAfter (cond b p q)
choose true h k = h
choose false h k = k

either : (b : Bool) → ends_at_end (cond b st.AfterCr st.StartRecord) ≡ false
either true = refl
either false = refl

after-end : (t : Terminator) (c : ℕ) → ends_at_end (after_end t c) ≡ false
after-end term.CRLF c = either (c == carriage_return)
after-end (term.Any t) c = refl

in-field : (cfg : Config) (c : ℕ) → StartsAfter (in_field cfg c)
in-field cfg c =
    choose _ (goes-on st.StartField act.EndField refl)
    (choose _ (record { starts = λ _. after-end cfg.terminator c }) (goes-on st.InField act.Copy refl))

start-field : (cfg : Config) (c : ℕ) → StartsAfter (start_field cfg c)
start-field cfg c = choose _ (goes-on st.InQuoted act.Skip refl) (in-field cfg c)

start-record : (cfg : Config) (c : ℕ) → StartsAfter (start_record cfg c)
start-record cfg c =
    choose _ (goes-on st.StartRecord act.Skip refl) (choose _ (goes-on st.InComment act.Skip refl) (start-field cfg c))

starts-after : (cfg : Config) (s : State) (c : ℕ) → StartsAfter (step cfg s c)
starts-after cfg st.StartRecord c = start-record cfg c
starts-after cfg st.StartField c = start-field cfg c
starts-after cfg st.InField c = in-field cfg c
starts-after cfg st.InQuoted c =
    choose _ (goes-on st.AfterQuote act.Skip refl) (choose _ (goes-on st.InEscape act.Skip refl) (goes-on st.InQuoted act.Copy refl))
starts-after cfg st.InEscape c = goes-on st.InQuoted act.Copy refl
starts-after cfg st.AfterQuote c = choose _ (goes-on st.InQuoted act.Copy refl) (in-field cfg c)
starts-after cfg st.InComment c = choose _ (goes-on st.StartRecord act.Skip refl) (goes-on st.InComment act.Skip refl)
starts-after cfg st.AfterCr c = choose _ (goes-on st.StartRecord act.Skip refl) (start-record cfg c)

-- what a record leaves: no more bytes than there were, and a state in which none has begun
pub record LeavesRest (xs : List ℕ) (p : Read) : Type 0 where
  pub short : length p.2 ≤ length xs
  pub fresh : ends_at_end p.1 ≡ false

at-end : (b : Bool) (r p : Read) → r.1 ≡ st.StartRecord → r.2 ≡ [] → cond b (Some r) None ≡ Some p → LeavesRest [] p
at-end true r p s none e =
    let same : r ≡ p = cc e in
    record { short = rw (← same, none) (omega arith); fresh = rw (← same, s) refl }
at-end false r p s none e = absurd (cc e)

at-step : (b : Bool) (next : Option Read) (r p : Read) (c : ℕ) (rest : List ℕ) → (b ≡ true → ends_at_end r.1 ≡ false) → r.2 ≡ rest
    → (next ≡ Some p → LeavesRest rest p) → cond b (Some r) next ≡ Some p → LeavesRest (c ∷ rest) p × (length p.2 ≤ length rest)
at-step true next r p c rest fresh same later e =
    let one : r ≡ p = cc e in
    (record { short = rw (← one, same) (omega arith); fresh = rw (← one) (fresh refl) }, rw (← one, same) (omega arith))
at-step false next r p c rest fresh same later e =
    let l = later e in
    (record { short = omega (arith, l.short); fresh = l.fresh }, l.short)

pub leaves : (cfg : Config) (s : State) (fields : List (List ℕ)) (field xs : List ℕ) (p : Read) → next_record cfg s fields field xs ≡ Some p → LeavesRest xs p
unfolding next_record
leaves cfg s fields field [] p e = at-end (ends_at_end s) (fields ++ (field ∷ []), st.StartRecord, []) p refl refl e
leaves cfg s fields field (c ∷ rest) p e =
    (at-step (is_end (step cfg s c).1) _ (fields_after (step cfg s c).1 fields field, (step cfg s c).0, rest) p c rest ((starts-after cfg s c).starts) refl
    (λ h. leaves cfg (step cfg s c).0 (fields_after (step cfg s c).1 fields field) (field_after (step cfg s c).1 c field) rest p h) e).0

-- a record that starts afresh takes a byte
pub takes : (cfg : Config) (s : State) (xs : List ℕ) (p : Read) → ends_at_end s ≡ false → next_record cfg s [] [] xs ≡ Some p → length p.2 < length xs
unfolding next_record
takes cfg s [] p fresh e = absurd (cc (rw fresh at e))
takes cfg s (c ∷ rest) p fresh e =
    let l = (at-step (is_end (step cfg s c).1) _ (fields_after (step cfg s c).1 [] [], (step cfg s c).0, rest) p c rest ((starts-after cfg s c).starts) refl
    (λ h. leaves cfg (step cfg s c).0 (fields_after (step cfg s c).1 [] []) (field_after (step cfg s c).1 c []) rest p h) e).1 in
    omega (arith, l)

-- as many records as were read take as many bytes at least, and enough are left to count for the others
pub rows_counted : (cfg : Config) (s : State) (xs : List ℕ) (rows : List (List (List ℕ))) (s2 : State) (ys : List ℕ) (n : ℕ) → ends_at_end s ≡ false → Reached cfg s xs rows s2 ys → length xs < n
    → (k : ℕ) × (records_from cfg n s xs ≡ rows ++ records_from cfg (suc k) s2 ys)
unfolding Reached records_from
rows_counted cfg s xs [] s2 ys zero fresh h lt = absurd (omega arith)
rows_counted cfg s xs [] s2 ys (suc n) fresh h lt = (n, rw (h.0, h.1) refl)
rows_counted cfg s xs (r ∷ rows) s2 ys zero fresh h lt = absurd (omega arith)
rows_counted cfg s xs (r ∷ rows) s2 ys (suc n) fresh h lt =
    let p = h.0 in
    let shorter = takes cfg s xs p fresh h.1 in
    let later = rows_counted cfg p.1 p.2 rows s2 ys n ((leaves cfg s [] [] xs p h.1).fresh) h.3 (omega (arith, shorter)) in
    (later.0, rw (h.1, h.2) (ap (λ (t : List (List (List ℕ))). p.0 ∷ t) later.1))

-- what was read so far begins the records
pub records-begin : (xs : List ℕ) (rows : List (List (List ℕ))) (s : State) (ys : List ℕ) → Reached default_config st.StartRecord xs rows s ys
    → (more : List (List (List ℕ))) × (records default_config xs ≡ rows ++ more)
records-begin xs rows s ys h =
    let c = rows_counted default_config st.StartRecord xs rows s ys (length xs + 1) refl h (omega arith) in
    (records_from default_config (suc c.0) s ys, c.1)

-- and is all of them where no record is left
pub records-end : (xs : List ℕ) (rows : List (List (List ℕ))) (s : State) (ys : List ℕ) → Reached default_config st.StartRecord xs rows s ys → next_record default_config s [] [] ys ≡ None
    → records default_config xs ≡ rows
unfolding records_from
records-end xs rows s ys h none =
    let c = rows_counted default_config st.StartRecord xs rows s ys (length xs + 1) refl h (omega arith) in
    c.1 ∙ rw none (append-nil rows)

up_to-cond : {A : Type 0} (b : Bool) (o p : Option A) (e : Bool) → b ≡ e → cond b o p ≡ cond e o p
up_to-cond b o p e h = rw h refl

-- more than the most
pub up_to-more : {A : Type 0} (most : ℕ) (all xs : List A) (x : A) (more : List A) → all ≡ (xs ++ (x ∷ [])) ++ more → most ≤ length xs → up_to most all ≡ None
up_to-more most all xs x more e full =
    let len = ap length e ∙ length-append (xs ++ (x ∷ [])) more in
    let past : most < length all = omega (arith, len, length-append xs (x ∷ [])) in
    up_to-cond _ _ _ false (lt-leb (length all) most past)

-- no more than that
pub up_to-all : {A : Type 0} (most : ℕ) (all xs : List A) → all ≡ xs → length xs ≤ most → up_to most all ≡ Some xs
up_to-all most all xs e few = rw e (up_to-cond _ _ _ true (le-leb _ _ few))

le_from_test : (a b : ℕ) → nat_le a b ≡ true → a ≤ b
le_from_test a b h = grind (arith, nat_tests)

pub up_to_some : {A : Type 0} (most : ℕ) (all xs : List A) → Some xs ≡ up_to most all → (all ≡ xs) × (length all ≤ most)
up_to_some most all xs e = go (nat_le (length all) most) refl e
  where
    go : (b : Bool) → nat_le (length all) most ≡ b → Some xs ≡ cond b (Some all) None → (all ≡ xs) × (length all ≤ most)
    go true h e = (sym (cc e), le_from_test (length all) most h)
    go false h e = absurd (cc e)

-- rows that are given are those of the file, and no more than the limit
pub rows_within_some : (most : ℕ) (file : List ℕ) (rows : List Cells) → Some rows ≡ rows_within most file → (rows_of file ≡ rows) × (length rows ≤ most)
rows_within_some most file rows e = go (nat_le (length file) 8388608) e
  where
    go : (b : Bool) → Some rows ≡ cond b (up_to most (rows_of file)) None → (rows_of file ≡ rows) × (length rows ≤ most)
    go true e = let h = up_to_some most (rows_of file) rows e in (h.0, rw (← h.0) h.1)
    go false e = absurd (cc e)
