-- A piece of a message file that was cut, behind what was cut before.
use Rattle.std.proofs.Common.{◌≡◌, ℕ, ◌+◌, ◌≤◌, ◌<◌, All, Bool, true, false, List, [], ◌∷◌, ◌++◌, drop, length, take, refl, sym, ap, ◌∙◌, subst, arith, append_assoc, append-nil, length-append, nat_lt}
use lib.Seq.{drop-append-le}
use mathlib.Core.Bool.{true≢false}
use Rattle.std.proofs.Math.Seq.{take-add}
use Rattle.std.proofs.lemmas.List.{drop-drop, length-map, take-append-drop, take-append-le}
use Rattle.fin_frame.specs.File.{IsCutInto, agrees, lead}
use Rattle.fin_frame.specs.Pieces.{AreAll, HasTakenFile, IsFaulty, IsPlaceIn, at_place, at_places}
use Rattle.fin_frame.specs.Shown.{ShowWhole}
use Rattle.fin_frame.specs.Whole.{is_led}
use Rattle.fin_frame.specs.declared.pieces.PieceCutter.{PieceCutter}
use Rattle.fin_frame.specs.declared.place.Place.{Place}
use Rattle.fin_frame.proofs.laws.Led.{and-parts}
use Rattle.fin_frame.proofs.laws.Running.{lt-test}
use Rattle.fin_frame.proofs.laws.Showing.{cut-comes}
use Rattle.fin_frame.proofs.laws.Tracking.{both-true}
use Rattle.corr_top.specs.MessageFile.{IsMessageFile}
use Rattle.corr_top.proofs.OwnedBatches.{grown_places}
use Rattle.corr_top.proofs.StreamFiles.{faulty_none, shown_few, taken_shown}

module _ (text : List ℕ) (taken : ℕ) (before : List (List ℕ)) (found : List Place) (places : List Place)
    (each : at_places text places ≡ before ++ at_places (drop taken text) found) where
  whole : take taken text ++ drop taken text ≡ text
  whole = take-append-drop taken text

  -- so many bytes more were taken
  pub cut_on : (c : PieceCutter) (n : ℕ) → HasTakenFile c (take taken text ++ take n (drop taken text)) (before ++ at_places (drop taken text) found) → HasTakenFile c (take (taken + n) text) (at_places text places)
  cut_on c n has = subst (λ (x : List ℕ × List (List ℕ)). HasTakenFile c x.0 x.1) (λ i. (sym (take-add taken n text) i, sym each i)) has

  pub led_on : (n : ℕ) → is_led (drop n (drop taken text)) ≡ true → is_led (drop (taken + n) text) ≡ true
  led_on n led = ap is_led (sym (drop-drop n taken text)) ∙ led

  -- the last piece was cut
  pub cut_whole_now : IsCutInto (take taken text ++ drop taken text) (before ++ at_places (drop taken text) found) → length text ≤ 67108864 → length places ≤ 50000 → length (at_places text places) ≡ length places
      → IsMessageFile text (at_places text places)
  cut_whole_now cut short few same = record {
    cut = subst (λ (x : List ℕ × List (List ℕ)). IsCutInto x.0 x.1) (λ i. (whole i, sym each i)) cut;
    short = short;
    few = omega (arith, few, same);
  }

-- ---- a text that grew since the last cut

led_more : (xs ys : List ℕ) → is_led xs ≡ true → is_led (xs ++ ys) ≡ true
led_more [] ys led = absurd (true≢false (sym led))
led_more (a ∷ []) ys led = absurd (true≢false (sym led))
led_more (a ∷ b ∷ []) ys led = absurd (true≢false (sym led))
led_more (a ∷ b ∷ c ∷ xs) ys led =
    let begins = (and-parts (nat_lt 2 (length (a ∷ b ∷ c ∷ xs))) (agrees lead (a ∷ b ∷ c ∷ xs)) led).1 in
    both-true (nat_lt 2 (length (a ∷ b ∷ c ∷ xs ++ ys))) (agrees lead (a ∷ b ∷ c ∷ xs ++ ys)) (lt-test 2 (length (a ∷ b ∷ c ∷ xs ++ ys)) (omega arith)) begins

pub led_grown : (text more : List ℕ) (taken : ℕ) → taken ≤ length text → is_led (drop taken text) ≡ true → is_led (drop taken (text ++ more)) ≡ true
led_grown text more taken within led = ap is_led (drop-append-le taken text more within) ∙ led_more (drop taken text) more led

pub taken_grown : (c : PieceCutter) (text more : List ℕ) (taken : ℕ) (places : List Place) → taken ≤ length text → All (IsPlaceIn (length text)) places → HasTakenFile c (take taken text) (at_places text places)
    → HasTakenFile c (take taken (text ++ more)) (at_places (text ++ more) places)
taken_grown c text more taken places within all has =
    let same = take-append-le taken text more within in
    let grown = grown_places text more places all in
    subst (λ (x : List ℕ × List (List ℕ)). HasTakenFile c x.0 x.1) (λ i. (sym same i, sym grown i)) has

-- ---- what is no message file, whatever comes

-- the piece shows a fault, or is the last and ends within a group
pub piece_faulty : (last : Bool) (text more : List ℕ) (taken : ℕ) (messages : List (List ℕ)) → IsFaulty last (take taken text ++ drop taken text) → (last ≡ true → more ≡ []) → IsMessageFile (text ++ more) messages → ⊥
piece_faulty last text more taken messages faulty ends is =
    faulty_none last text more messages (subst (λ (b : List ℕ). IsFaulty last b) (take-append-drop taken text) faulty) ends is

-- more messages stand whole in it than a file may have
pub too_many : (text more : List ℕ) (taken n : ℕ) (c : PieceCutter) (found messages : List (List ℕ)) → HasTakenFile c (take taken text ++ take n (drop taken text)) found → (c.apart ≡ false → is_led (drop n (drop taken text)) ≡ true)
    → 50000 < length found → IsMessageFile (text ++ more) messages → ⊥
too_many text more taken n c found messages has led many is =
    let there : (take taken text ++ take n (drop taken text)) ++ drop n (drop taken text) ≡ text =
    append_assoc (take taken text) (take n (drop taken text)) (drop n (drop taken text)) ∙ ap (λ (l : List ℕ). take taken text ++ l) (take-append-drop n (drop taken text)) ∙ take-append-drop taken text in
    let shown : ShowWhole text found = subst (λ (b : List ℕ). ShowWhole b found) there (taken_shown c (take taken text ++ take n (drop taken text)) (drop n (drop taken text)) found has led) in
    let all = shown_few text more found messages shown is.cut in
    let few = is.few in
    omega (arith, many, all, few)

-- a file is cut in one way
cut_once : (file : List ℕ) (ours theirs : List (List ℕ)) → IsCutInto file ours → IsCutInto file theirs → ours ≡ theirs
cut_once file ours theirs one other = sym (cut-comes one).all ∙ (cut-comes other).all

-- the last piece has the messages that the file still has
pub all_whole : (ended : Bool) (bytes : List ℕ) (messages : List (List ℕ)) → AreAll ended bytes messages → ended ≡ true → IsCutInto bytes messages
all_whole true bytes messages all is = all
all_whole false bytes messages all is = absurd (true≢false (sym is))

-- more messages were found in it than a file may have
pub too_many_found : (ended : Bool) (text more : List ℕ) (taken n : ℕ) (c : PieceCutter) (before : List (List ℕ)) (found : List Place) (messages : List (List ℕ))
    → HasTakenFile c (take taken text ++ take n (drop taken text)) (before ++ at_places (drop taken text) found) → (ended ≡ false → c.apart ≡ false → is_led (drop n (drop taken text)) ≡ true)
    → AreAll ended (take taken text ++ drop taken text) (before ++ at_places (drop taken text) found) → (ended ≡ true → more ≡ []) → 50000 < length before + length found → IsMessageFile (text ++ more) messages → ⊥
too_many_found ended text more taken n c before found messages has led all ends many is = by_end ended led all ends
  where
    long : 50000 < length (before ++ at_places (drop taken text) found)
    long = let both = length-append before (at_places (drop taken text) found) in let each = length-map found (at_place (drop taken text)) in omega (arith, both, each, many)

    by_end : (ended : Bool) → (ended ≡ false → c.apart ≡ false → is_led (drop n (drop taken text)) ≡ true) → AreAll ended (take taken text ++ drop taken text) (before ++ at_places (drop taken text) found) → (ended ≡ true → more ≡ []) → ⊥
    by_end false led all ends = too_many text more taken n c (before ++ at_places (drop taken text) found) messages has (led refl) long is
    by_end true led all ends =
        let whole : IsCutInto text messages = subst (λ (l : List ℕ). IsCutInto l messages) (ap (λ (l : List ℕ). text ++ l) (ends refl) ∙ append-nil text) is.cut in
        let ours : IsCutInto text (before ++ at_places (drop taken text) found) = subst (λ (l : List ℕ). IsCutInto l (before ++ at_places (drop taken text) found)) (take-append-drop taken text) all in
        let same = ap length (cut_once text (before ++ at_places (drop taken text) found) messages ours whole) in
        let few = is.few in
        omega (arith, long, same, few)
