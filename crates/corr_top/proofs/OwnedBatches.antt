-- Batches that own the bytes of their messages, and batches of a feed that goes on.
use Rattle.std.proofs.Common.{◌≡◌, ℕ, zero, suc, ◌+◌, ◌-◌, ◌<◌, ◌≤◌, All, List, [], ◌∷◌, ◌++◌, drop, get_or, length, length-append, map, take, refl, sym, ap, ◌∙◌, subst, arith}
use Rattle.std.specs.Prelude.{max, min, sum}
use Rattle.std.proofs.lemmas.List.{drop-drop, drop_all, get_or-map, length-drop, length-map, length-take, map-append, take-append-drop, take-append-le}
use Rattle.std.proofs.lemmas.List.Sums.{sum_by-cons}
use Rattle.std.proofs.lemmas.List.Elements.{All-append, All-get_or, All-head, All-tail, All-weaker}
use lib.Seq.{drop-append-le, take-suc, take_all}
use Rattle.fin_frame.specs.Pieces.{IsPlaceIn, at_place, at_places}
use Rattle.fin_frame.specs.declared.place.Place.{Place}
use Rattle.corr_top.specs.inner.Batching.{AreInText, IsShort, StandsBetween, behind}
use Rattle.corr_top.specs.inner.Stream.{batches_of}
use Rattle.corr_top.proofs.Replying.{all_one}

-- ---- a text that grows

pub grown_place : (text more : List ℕ) (place : Place) → IsPlaceIn (length text) place → at_place (text ++ more) place ≡ at_place text place
grown_place text more place within =
    let left = length-drop place.from text in
    ap (λ (l : List ℕ). take place.len l) (drop-append-le place.from text more (omega (arith, within))) ∙ take-append-le place.len (drop place.from text) more (omega (arith, left, within))

pub grown_places : (text more : List ℕ) (places : List Place) → All (IsPlaceIn (length text)) places → at_places (text ++ more) places ≡ at_places text places
grown_places text more [] all = refl
grown_places text more (p ∷ places) all =
    let first = grown_place text more p (All-head (IsPlaceIn (length text)) p places all) in
    let rest = grown_places text more places (All-tail (IsPlaceIn (length text)) p places all) in
    (λ i. first i ∷ rest i)

-- ---- batches of messages of which more come

pub batches_stay : (sizes : List ℕ) (messages more : List (List ℕ)) → sum sizes ≤ length messages → batches_of sizes (messages ++ more) ≡ batches_of sizes messages
batches_stay [] messages more enough = refl
batches_stay (n ∷ sizes) messages more enough =
    let left = length-drop n messages in
    let all = sum_by-cons (λ (k : ℕ). k) n sizes in
    let first = take-append-le n messages more (omega (arith, all, enough)) in
    let rest = ap (λ (ms : List (List ℕ)). batches_of sizes ms) (drop-append-le n messages more (omega (arith, all, enough))) ∙ batches_stay sizes (drop n messages) more (omega (arith, all, left, enough)) in
    (λ i. first i ∷ rest i)

-- one batch more
pub batches_end : (sizes : List ℕ) (n : ℕ) (messages : List (List ℕ)) → batches_of (sizes ++ n ∷ []) messages ≡ batches_of sizes messages ++ take n (drop (sum sizes) messages) ∷ []
batches_end [] n messages = refl
batches_end (m ∷ sizes) n messages =
    let behind_all : drop (sum sizes) (drop m messages) ≡ drop (sum (m ∷ sizes)) messages = drop-drop (sum sizes) m messages ∙ ap (λ (k : ℕ). drop k messages) (sym (sum_by-cons (λ (k : ℕ). k) m sizes)) in
    ap (λ (bs : List (List (List ℕ))). take m messages ∷ bs)
    (batches_end sizes n (drop m messages) ∙ ap (λ (ms : List (List ℕ)). batches_of sizes (drop m messages) ++ take n ms ∷ []) behind_all)

-- ---- a message more in a text

own_place : (text message : List ℕ) (place : Place) → place.from ≡ length text → place.len ≡ length message → at_place (text ++ message) place ≡ message
own_place text message place from len =
    let behind : drop place.from (text ++ message) ≡ message =
    drop-append-le place.from text message (omega (arith, from)) ∙ ap (λ (l : List ℕ). l ++ message) (drop_all place.from text (omega (arith, from))) in
    ap (λ (l : List ℕ). take place.len l) behind ∙ take_all place.len message (omega (arith, len))

pub message_more : (text message : List ℕ) (places : List Place) (place : Place) → place.from ≡ length text → place.len ≡ length message → All (IsPlaceIn (length text)) places
    → at_places (text ++ message) (places ++ place ∷ []) ≡ at_places text places ++ message ∷ []
message_more text message places place from len within =
    let first = grown_places text message places within in
    let last = own_place text message place from len in
    map-append (at_place (text ++ message)) places (place ∷ []) ∙ (λ i. first i ++ last i ∷ [])

-- a message of those in a text
pub short_at : (text : List ℕ) (places : List Place) (at : ℕ) (d : Place) → at < length places → All IsShort (at_places text places) → length (at_place text (get_or places at d)) ≤ 16384
short_at text places at d within all =
    subst (λ (m : List ℕ). length m ≤ 16384) (get_or-map (at_place text) places at d [] within) (all at [] (let same = length-map places (at_place text) in omega (arith, within, same)))

pub in_text_more : (text message : List ℕ) (places : List Place) (place : Place) → place.from ≡ length text → place.len ≡ length message → length message ≤ 16384 → AreInText text places
    → AreInText (text ++ message) (places ++ place ∷ [])
in_text_more text message places place from len short old =
    let grown = length-append text message in
    record {
      within = All-append (IsPlaceIn (length (text ++ message))) places (place ∷ [])
          (All-weaker (IsPlaceIn (length text)) (IsPlaceIn (length (text ++ message))) (λ p in_old. omega (arith, grown, in_old)) places old.within)
          (all_one (IsPlaceIn (length (text ++ message))) place (omega (arith, from, len, grown)));
      short = subst (λ (ms : List (List ℕ)). All IsShort ms) (sym (message_more text message places place from len old.within))
          (All-append IsShort (at_places text places) (message ∷ []) old.short (all_one IsShort message short));
    }

-- ---- places that begin elsewhere

pub places_behind : (begin : ℕ) (text : List ℕ) (found : List Place) → at_places text (map (behind begin) found) ≡ at_places (drop begin text) found
places_behind begin text [] = refl
places_behind begin text (p ∷ found) =
    let first : at_place text (behind begin p) ≡ at_place (drop begin text) p = ap (λ (l : List ℕ). take p.len l) (sym (drop-drop p.from begin text)) in
    let rest = places_behind begin text found in
    (λ i. first i ∷ rest i)

-- ---- a stretch of a file

-- one more place, and bytes that it stands between too
pub between_more : (b past wide far : ℕ) (p : Place) (ps : List Place) → wide ≤ b → past ≤ far → StandsBetween wide far p → All (StandsBetween b past) ps → All (StandsBetween wide far) (ps ++ p ∷ [])
between_more b past wide far p ps before after one all =
    All-append (StandsBetween wide far) ps (p ∷ [])
    (All-weaker (StandsBetween b past) (StandsBetween wide far) (λ q between. (omega (arith, before, between.0), omega (arith, after, between.1))) ps all)
    (all_one (StandsBetween wide far) p one)

-- one place more of a list
pub between_step : (at : List Place) (i : ℕ) (d : Place) (b past wide far : ℕ) → i < length at → wide ≡ min b (get_or at i d).from → far ≡ max past ((get_or at i d).from + (get_or at i d).len)
    → All (StandsBetween b past) (take i at) → All (StandsBetween wide far) (take (i + 1) at)
between_step at i d b past wide far within least most all =
    let one : i + 1 ≡ suc i = omega (arith) in
    subst (λ (ps : List Place). All (StandsBetween wide far) ps) (sym (take-suc at i d within) ∙ ap (λ (n : ℕ). take n at) (sym one))
    (between_more b past wide far (get_or at i d) (take i at) (omega (arith, least)) (omega (arith, most)) (omega (arith, least), omega (arith, most)) all)

-- which stands in a text, as the others do
pub past_within : (at : List Place) (i : ℕ) (d : Place) (past far size : ℕ) → i < length at → far ≡ max past ((get_or at i d).from + (get_or at i d).len) → All (IsPlaceIn size) at → past ≤ size → far ≤ size
past_within at i d past far size within most all before =
    let one = All-get_or (IsPlaceIn size) at i d within all in
    omega (arith, one, most, before)

-- places behind others stand within what is left of a stretch
pub stretch_within : (begin past : ℕ) (places : List Place) → All (StandsBetween begin past) (map (behind begin) places) → All (IsPlaceIn (past - begin)) places
stretch_within begin past [] all = λ d at within. absurd (omega (arith, within))
stretch_within begin past (p ∷ places) all =
    let first = All-head (StandsBetween begin past) (behind begin p) (map (behind begin) places) all in
    let rest = stretch_within begin past places (All-tail (StandsBetween begin past) (behind begin p) (map (behind begin) places) all) in
    All-append (IsPlaceIn (past - begin)) (p ∷ []) places (all_one (IsPlaceIn (past - begin)) p (omega (arith, first.0, first.1))) rest

-- so the messages are the same in the stretch alone
pub stretch_places : (begin count : ℕ) (text : List ℕ) (places : List Place) → count ≤ length (drop begin text) → All (IsPlaceIn count) places
    → at_places (take count (drop begin text)) places ≡ at_places text (map (behind begin) places)
stretch_places begin count text places within all =
    let stretch = take count (drop begin text) in
    let long : length stretch ≡ count = length-take count (drop begin text) ∙ omega (arith, within) in
    sym (grown_places stretch (drop count (drop begin text)) places (subst (λ (n : ℕ). All (IsPlaceIn n) places) (sym long) all))
    ∙ ap (λ (l : List ℕ). at_places l places) (take-append-drop count (drop begin text))
    ∙ sym (places_behind begin text places)

-- messages of a file, in a text of the stretch where they stand
module _ (file text : List ℕ) (at places : List Place) (begin past : ℕ) (is : text ≡ take (past - begin) (drop begin file)) (fits : past ≤ length file) (are : map (behind begin) places ≡ at)
    (between : All (StandsBetween begin past) at) where
  long : past - begin ≤ length (drop begin file)
  long = let left = length-drop begin file in omega (arith, fits, left)

  places_in : All (IsPlaceIn (past - begin)) places
  places_in = stretch_within begin past places (subst (λ (ps : List Place). All (StandsBetween begin past) ps) (sym are) between)

  pub stretch_same : at_places text places ≡ at_places file at
  stretch_same = ap (λ (l : List ℕ). at_places l places) is ∙ stretch_places begin (past - begin) file places long places_in ∙ ap (at_places file) are

  pub stretch_in : All IsShort (at_places file at) → AreInText text places
  stretch_in short =
      let size : length text ≡ past - begin = ap length is ∙ (let taken = length-take (past - begin) (drop begin file) in omega (arith, taken, long)) in
      record {
        within = subst (λ (n : ℕ). All (IsPlaceIn n) places) (sym size) places_in;
        short = subst (λ (ms : List (List ℕ)). All IsShort ms) (sym stretch_same) short;
      }

-- ---- places side by side

map_take : {A B : Type 0} (f : A → B) (n : ℕ) (xs : List A) → map f (take n xs) ≡ take n (map f xs)
map_take f zero xs = refl
map_take f (suc n) [] = refl
map_take f (suc n) (x ∷ xs) = ap (λ l. f x ∷ l) (map_take f n xs)

map_drop : {A B : Type 0} (f : A → B) (n : ℕ) (xs : List A) → map f (drop n xs) ≡ drop n (map f xs)
map_drop f zero xs = refl
map_drop f (suc n) [] = refl
map_drop f (suc n) (x ∷ xs) = map_drop f n xs

pub places_slice : (text : List ℕ) (m n : ℕ) (places : List Place) → at_places text (take n (drop m places)) ≡ take n (drop m (at_places text places))
places_slice text m n places = map_take (at_place text) n (drop m places) ∙ ap (take n) (map_drop (at_place text) m places)
