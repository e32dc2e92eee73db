-- The instructions that are passed on are some of those that came, in their order; so what bars some of a list bars none of them.
use Rattle.std.proofs.Common.{◌≡◌, ℕ, ◌+◌, ◌&&◌, ◌||◌, not, Bool, true, false, cond, List, [], ◌∷◌, ◌++◌, length, take, drop, nat_le, option_map, position, Option, Some, None, Ok, refl, sym, ap, ◌∙◌, subst}
use Rattle.std.specs.Prelude.{codes, is_none, filter}
use Rattle.std.specs.List.{AllByRecursion, flat_map, list_all, list_any}
use Rattle.std.specs.Str.{bytes_eq}
use Rattle.std.proofs.lemmas.List.{append-nil}
use Rattle.std.proofs.lemmas.List.Elements.{filter-append}
use Rattle.corr_text.specs.First.{first_of}
use Rattle.corr_text.specs.Sets.{is_in}
use Rattle.corr_text.specs.declared.set.Set.TheVariants.{C}
use Rattle.fin_fields.specs.declared.field.Field.{Field}
use Rattle.fin_layout.proofs.laws.Fine.{first-none, map-none}
use Rattle.fin_contents.specs.Plain.{one_line}
use Rattle.fin_contents.proofs.laws.Steps.{checked, is-only, there}
use Rattle.fin_fields.proofs.laws.Positions.{position-here, position-later}
use Rattle.mt103.specs.Codes.{code_in, instr_of, is_instruction, takes_text, instruction_text}
use Rattle.mt103.specs.Instructions.{d98, e46, first_given, misfits}
use Rattle.mt103.specs.declared.instruction.Instr.{Instr}
use Rattle.mt103.specs.declared.misfit.Misfit.{Misfit}
use Rattle.mt103.specs.declared.misfit.Misfit.TheVariants.{Repeated, Early}
use Rattle.mt103_rules.specs.Instructions.{has_instr}
use Rattle.advices.specs.Fields.{copied_all, is_named, kept}
use Rattle.advices.specs.Transfer.{has_code, is_passed_on, tells_account_bank, tells_intermediary}
use Rattle.advices.proofs.laws.Copies.{SaysNamed}
use Rattle.advices.proofs.laws.Said.{all_said}

-- ---- by what they say

-- an instruction stays where each bank that it asks to tell is named
abbrev pub tells_56 : Instr → Bool
tells_56 i = bytes_eq i.code (codes "TELI") || bytes_eq i.code (codes "PHOI")

abbrev pub tells_57 : Instr → Bool
tells_57 i = bytes_eq i.code (codes "TELE") || bytes_eq i.code (codes "PHON")

abbrev pub stays : Bool → Bool → Instr → Bool
stays has_56 has_57 i = (has_56 || not (tells_56 i)) && (has_57 || not (tells_57 i))

some-word : (b : Bool) (taken word : List ℕ) → cond b (Some taken) None ≡ Some word → taken ≡ word
some-word true taken word e = cc e
some-word false taken word e = absurd (cc e)

-- the code of an instruction is what its field begins with
code-is : (f : Field) (x : Instr) (code : List ℕ) → instr_of f ≡ Ok x → has_code code f ≡ bytes_eq x.code code
unfolding instr_of
code-is f x code e =
    let line = there (one_line f) _ _ x e in
    let word = there (code_in line.0) _ _ x line.2 in
    let text = there (instruction_text (drop 4 line.0)) _ _ x word.2 in
    let known = checked (is_instruction word.0) _ _ x text.2 in
    let fits = checked (is_none text.0 || takes_text word.0) _ _ x known.1 in
    let same : record { code = word.0; text = text.0 } ≡ x = cc fits.1 in
    let lines : f.lines ≡ line.0 ∷ [] = is-only f.lines line.0 line.1 in
    let begins : take 4 line.0 ≡ word.0 = some-word (nat_le 4 (length line.0) && list_all (is_in C) (take 4 line.0)) (take 4 line.0) word.0 word.1 in
    rw lines (ap (λ (w : List ℕ). bytes_eq w code) begins ∙ ap (λ (y : Instr). bytes_eq y.code code) same)

-- those that are passed on are those that stay
pub staying : (has_56 has_57 : Bool) (fs : List Field) → AllByRecursion (SaysNamed 23 (codes "E") instr_of) fs
    → all_said instr_of (copied_all (is_passed_on has_56 has_57) fs)
    ≡ filter (stays has_56 has_57) (all_said instr_of (copied_all (is_named 23 (codes "E")) fs))
staying has_56 has_57 [] all = refl
staying has_56 has_57 (f ∷ fs) all = go (is_named 23 (codes "E") f) refl (staying has_56 has_57 fs all.1)
  where
    Later : Type 0
    Later =
        all_said instr_of (copied_all (is_passed_on has_56 has_57) fs)
        ≡ filter (stays has_56 has_57) (all_said instr_of (copied_all (is_named 23 (codes "E")) fs))

    one : (x : Instr) (b : Bool) → instr_of f ≡ Ok x → Later → all_said instr_of (cond b (f ∷ []) [] ++ flat_map (kept (is_passed_on has_56 has_57)) fs)
        ≡ cond b (x ∷ filter (stays has_56 has_57) (all_said instr_of (flat_map (kept (is_named 23 (codes "E"))) fs)))
        (filter (stays has_56 has_57) (all_said instr_of (flat_map (kept (is_named 23 (codes "E"))) fs)))
    one x true e later = rw e (ap (λ (xs : List Instr). x ∷ xs) later)
    one x false e later = later

    go : (b : Bool) → is_named 23 (codes "E") f ≡ b → Later
        → all_said instr_of
        (cond (b && (has_56 || not (tells_intermediary f)) && (has_57 || not (tells_account_bank f))) (f ∷ []) []
        ++ flat_map (kept (is_passed_on has_56 has_57)) fs)
        ≡ filter (stays has_56 has_57) (all_said instr_of (cond b (f ∷ []) [] ++ flat_map (kept (is_named 23 (codes "E"))) fs))
    go false e later = later
    go true e later =
        let x = all.0 e in
        let teli = code-is f x.0 (codes "TELI") x.1 in
        let phoi = code-is f x.0 (codes "PHOI") x.1 in
        let tele = code-is f x.0 (codes "TELE") x.1 in
        let phon = code-is f x.0 (codes "PHON") x.1 in
        let same : ((has_56 || not (tells_intermediary f)) && (has_57 || not (tells_account_bank f))) ≡ stays has_56 has_57 x.0 =
        rw (teli, phoi, tele, phon) refl in
        rw same (one x.0 (stays has_56 has_57 x.0) x.1 later ∙ rw x.1 refl)

-- ---- some of a list

-- none of some passes what none of all passes
pub any-kept : {X : Type 0} (p q : X → Bool) (xs : List X) → list_any q xs ≡ false → list_any q (filter p xs) ≡ false
any-kept p q [] e = refl
any-kept {X} p q (x ∷ xs) e = go (p x) (q x) (any-kept p q xs) refl e
  where
    go : (b c : Bool) → (list_any q xs ≡ false → list_any q (filter p xs) ≡ false) → q x ≡ c → (c || list_any q xs) ≡ false
        → list_any q (cond b (x ∷ filter p xs) (filter p xs)) ≡ false
    go b true later h e = absurd (cc e)
    go true false later h e = rw h (later e)
    go false false later h e = later e

pub none-kept : {X : Type 0} (p q : X → Bool) (xs : List X) → position q xs ≡ None → position q (filter p xs) ≡ None
none-kept p q [] e = refl
none-kept p q (x ∷ xs) e = go (p x) (q x) (none-kept p q xs) refl
  where
    go : (b c : Bool) → (position q xs ≡ None → position q (filter p xs) ≡ None) → q x ≡ c → position q (cond b (x ∷ filter p xs) (filter p xs)) ≡ None
    go b true later h = absurd (cc (sym (position-here q x xs h) ∙ e))
    go true false later h =
        position-later q x (filter p xs) h
        ∙ ap (option_map (λ i. i + 1)) (later (map-none (λ i. i + 1) (position q xs) (sym (position-later q x xs h) ∙ e)))
    go false false later h = later (map-none (λ i. i + 1) (position q xs) (sym (position-later q x xs h) ∙ e))

none-barred : (b : Bool) (n : ℕ) (later : Option ℕ) → cond b (Some n) later ≡ None → (b ≡ false) × (later ≡ None)
none-barred true n later e = absurd (cc e)
none-barred false n later e = (refl, e)

-- none of some fits badly after those before it
pub given-kept : (misfit : Misfit) (p : Instr → Bool) (before xs : List Instr) → first_given (misfits misfit) before xs ≡ None
    → first_given (misfits misfit) (filter p before) (filter p xs) ≡ None
unfolding first_given
given-kept misfit p before [] e = refl
given-kept misfit p before (x ∷ xs) e =
    let parts = none-barred (misfits misfit before x) (length before) (first_given (misfits misfit) (before ++ x ∷ []) xs) e in
    go (p x) refl parts.0 (given-kept misfit p (before ++ x ∷ []) xs parts.1)
  where
    go : (b : Bool) → p x ≡ b → misfits misfit before x ≡ false → first_given (misfits misfit) (filter p (before ++ x ∷ [])) (filter p xs) ≡ None
        → first_given (misfits misfit) (filter p before) (cond b (x ∷ filter p xs) (filter p xs)) ≡ None
    go true h fits later =
        let still : misfits misfit (filter p before) x ≡ false = any-kept p _ before fits in
        let front : filter p (before ++ x ∷ []) ≡ filter p before ++ x ∷ [] =
        filter-append p before (x ∷ []) ∙ ap (λ (b : Bool). filter p before ++ cond b (x ∷ []) []) h in
        rw still (subst (λ (bs : List Instr). first_given (misfits misfit) bs (filter p xs) ≡ None) front later)
    go false h fits later =
        let front : filter p (before ++ x ∷ []) ≡ filter p before =
        filter-append p before (x ∷ []) ∙ ap (λ (b : Bool). filter p before ++ cond b (x ∷ []) []) h ∙ append-nil (filter p before) in
        subst (λ (bs : List Instr). first_given (misfits misfit) bs (filter p xs) ≡ None) front later

-- so instructions that stand together stand together without some of them
pub together : (p : Instr → Bool) (xs : List Instr) → first_of (e46 xs ∷ d98 xs ∷ []) ≡ None → first_of (e46 (filter p xs) ∷ d98 (filter p xs) ∷ []) ≡ None
together p xs e =
    let one = first-none (e46 xs) (d98 xs ∷ []) e in
    let two = first-none (d98 xs) [] one.1 in
    let repeated = given-kept Repeated p [] xs (map-none _ (first_given (misfits Repeated) [] xs) one.0) in
    let early = given-kept Early p [] xs (map-none _ (first_given (misfits Early) [] xs) two.0) in
    rw (repeated, early) refl

-- ---- whom to tell

pub and-false : (b : Bool) → (b && false) ≡ false
and-false true = refl
and-false false = refl

-- none of those that stay asks for a bank that isn't named
none-tells : (told : Instr → Bool) (p : Instr → Bool) (xs : List Instr) → ((x : Instr) → told x ≡ true → p x ≡ false) → list_any told (filter p xs) ≡ false
none-tells told p [] h = refl
none-tells told p (x ∷ xs) h = go (p x) (told x) (none-tells told p xs h) refl refl
  where
    go : (b c : Bool) → list_any told (filter p xs) ≡ false → p x ≡ b → told x ≡ c → list_any told (cond b (x ∷ filter p xs) (filter p xs)) ≡ false
    go true true later e s = absurd (cc (sym e ∙ h x s))
    go true false later e s = rw s later
    go false c later e s = later

second-told : (b rest : Bool) → (not (b || true) && rest) ≡ false
second-told true rest = refl
second-told false rest = refl

first-barred : (a b : Bool) → (a && not (true || b)) ≡ false
first-barred a b = and-false a

second-barred : (a b : Bool) → (a && not (b || true)) ≡ false
second-barred a true = and-false a
second-barred a false = and-false a

-- so the codes that ask for 56a are gone without it
pub none-tells-56 : (has_57 : Bool) (xs : List Instr)
    → (has_instr (codes "TELI") (filter (stays false has_57) xs) || has_instr (codes "PHOI") (filter (stays false has_57) xs)) ≡ false
none-tells-56 has_57 xs =
    let teli = none-tells (λ i. bytes_eq i.code (codes "TELI")) (stays false has_57) xs (λ x e. rw e refl) in
    let phoi =
    none-tells (λ i. bytes_eq i.code (codes "PHOI")) (stays false has_57) xs
    (λ x e. rw e (second-told (bytes_eq x.code (codes "TELI")) (has_57 || not (tells_57 x)))) in
    rw (teli, phoi) refl

-- and those that ask for 57a without that
pub none-tells-57 : (has_56 : Bool) (xs : List Instr)
    → (has_instr (codes "TELE") (filter (stays has_56 false) xs) || has_instr (codes "PHON") (filter (stays has_56 false) xs)) ≡ false
none-tells-57 has_56 xs =
    let tele =
    none-tells (λ i. bytes_eq i.code (codes "TELE")) (stays has_56 false) xs
    (λ x e. rw e (first-barred (has_56 || not (tells_56 x)) (bytes_eq x.code (codes "PHON")))) in
    let phon =
    none-tells (λ i. bytes_eq i.code (codes "PHON")) (stays has_56 false) xs
    (λ x e. rw e (second-barred (has_56 || not (tells_56 x)) (bytes_eq x.code (codes "TELE")))) in
    rw (tele, phon) refl
