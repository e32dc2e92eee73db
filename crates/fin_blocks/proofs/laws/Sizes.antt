-- The text of a message has no more lines than the message has bytes, and at most twice as many bytes, since a line end
-- becomes CR LF.
use Rattle.std.proofs.Common.{◌≡◌, ℕ, zero, suc, ◌+◌, ◌-◌, ◌*◌, ◌==◌, ◌&&◌, ◌≤◌, Bool, true, false, cond, List, [], ◌∷◌, ◌++◌, length, take, drop, Option, Some, None, Ok, refl, ap, ◌∙◌, subst, arith, length-append, length-drop, append_assoc}
use Rattle.std.specs.Prelude.{IfOk, IfSome, bytes_eq, codes, nat_le}
use Rattle.std.specs.List.{flat_map, list_all}
use Rattle.std.specs.Option.{option_or}
use Rattle.std.proofs.lemmas.Bool.{and_parts}
use Rattle.std.proofs.lemmas.Bool.Decides.{nat_tests}
use Rattle.std.proofs.lemmas.List.{length-take}
use Rattle.corr_text.specs.Codes.{code}
use Rattle.corr_text.specs.First.{check, or_fault}
use Rattle.corr_text.specs.Lines.{begins_with, lines_of, with_byte as with_line_byte}
use Rattle.corr_text.proofs.laws.Written.{is_inner, line-again}
use Rattle.corr_ids.specs.Day.{◌>>=◌ as ◌then◌}
use Rattle.fin_blocks.specs.Blocks.{ending_of, groups_past, blocks_of, has_next, user_of}
use Rattle.fin_blocks.specs.Forms.{app_of, basic_of, between, mir_in}
use Rattle.corr_text.specs.Braces.{depth_after}
use Rattle.fin_blocks.specs.Groups.{groups_after, groups_of, next_group, groups_from, group_with_byte}
use Rattle.fin_blocks.specs.Text.{ended, text_in, text_of}
use Rattle.fin_blocks.specs.declared.blocks.Blocks.{Blocks}
use Rattle.fin_blocks.specs.declared.fault.BlockFault.TheVariants as fault
use Rattle.fin_blocks.proofs.laws.Named.{then as passed}

-- ---- groups of at most n bytes

abbrev IsSmall : ℕ → Option (List ℕ) → Type 0
IsSmall n group = IfSome group (λ g. length g ≤ n)

abbrev AreSmall : ℕ → List (Option (List ℕ)) → Type 0
AreSmall n [] = Unit {0}
AreSmall n (None ∷ groups) = AreSmall n groups
AreSmall n (Some group ∷ groups) = (length group ≤ n) × AreSmall n groups

still-small : (n : ℕ) (groups : List (Option (List ℕ))) → AreSmall n groups → AreSmall (suc n) groups
still-small n [] small = tt
still-small n (None ∷ groups) small = still-small n groups small
still-small n (Some group ∷ groups) small = (let le = small.0 in omega arith, still-small n groups small.1)

small-with : (n b : ℕ) (groups : List (Option (List ℕ))) → AreSmall n groups → AreSmall (suc n) (group_with_byte b groups)
small-with n b [] small = tt
small-with n b (None ∷ groups) small = still-small n groups small
small-with n b (Some group ∷ groups) small = (let le = small.0 in omega arith, still-small n groups small.1)

either : (n : ℕ) (t : Bool) (xs ys : List (Option (List ℕ))) → AreSmall n xs → AreSmall n ys → AreSmall n (cond t xs ys)
either n true xs ys a b = a
either n false xs ys a b = b

from-small : (depth : ℕ) (bs : List ℕ) → AreSmall (length bs) (groups_from depth bs)
from-small depth [] = either zero (depth == 0) [] (None ∷ []) tt tt
from-small depth (b ∷ bs) =
    either (suc (length bs)) (depth_after depth b == 0) (Some (b ∷ []) ∷ groups_from 0 bs) (group_with_byte b (groups_from (depth_after depth b) bs))
    (omega arith, still-small (length bs) (groups_from 0 bs) (from-small 0 bs))
    (small-with (length bs) b (groups_from (depth_after depth b) bs) (from-small (depth_after depth b) bs))

groups-small : (bs : List ℕ) → AreSmall (length bs) (groups_of bs)
unfolding groups_of
groups-small bs = from-small 0 bs

next-small : (n : ℕ) (groups : List (Option (List ℕ))) → AreSmall n groups → IsSmall n (next_group groups)
next-small n [] small = tt
next-small n (None ∷ groups) small = tt
next-small n (Some group ∷ groups) small = small.0

after-small : (n : ℕ) (groups : List (Option (List ℕ))) → AreSmall n groups → AreSmall n (groups_after groups)
after-small n [] small = tt
after-small n (None ∷ groups) small = small
after-small n (Some group ∷ groups) small = small.1

past-small : (n : ℕ) (start : List ℕ) (groups : List (Option (List ℕ))) → AreSmall n groups → AreSmall n (groups_past start groups)
past-small n start groups small = either n (has_next start groups) (groups_after groups) groups (after-small n groups small) small

-- ---- lines, each with a new end

line-size : (line : List ℕ) (lines : List (List ℕ)) → length (flat_map ended (line ∷ lines)) ≡ length line + 2 + length (flat_map ended lines)
line-size line lines = let a = length-append (ended line) (flat_map ended lines) in let b = length-append line (13 ∷ 10 ∷ []) in omega arith

with-size : (b : ℕ) (lines : List (List ℕ)) (n : ℕ) → length (flat_map ended lines) ≤ 2 * n + 1 → length (flat_map ended (with_line_byte b lines)) ≤ 2 * suc n + 1
with-size b [] n le = omega arith
with-size b (line ∷ lines) n le = let a = line-size line lines in let c = line-size (b ∷ line) lines in omega arith

line-case : (end return : Bool) (b : ℕ) (lines : List (List ℕ)) (n : ℕ) → length (flat_map ended lines) ≤ 2 * n + 1
    → length (flat_map ended (cond end ([] ∷ lines) (cond return lines (with_line_byte b lines)))) ≤ 2 * suc n + 1
line-case true return b lines n le = let a = line-size [] lines in omega arith
line-case false true b lines n le = omega arith
line-case false false b lines n le = with-size b lines n le

lines-size : (bs : List ℕ) → length (flat_map ended (lines_of bs)) ≤ 2 * length bs + 1
lines-size [] = omega arith
lines-size (b ∷ bs) = line-case (b == 10) ((b == 13) && begins_with 10 bs) b (lines_of bs) (length bs) (lines-size bs)

-- no line holds a line feed, and so lines that are written with their ends are read again

abbrev are_inner : List (List ℕ) → Bool
are_inner lines = list_all (list_all is_inner) lines

inner-with : (b : ℕ) (lines : List (List ℕ)) → (b == 10) ≡ false → are_inner lines ≡ true → are_inner (with_line_byte b lines) ≡ true
inner-with b [] other inner = rw other refl
inner-with b (line ∷ lines) other inner = rw other inner

inner-case : (end return : Bool) (b : ℕ) (lines : List (List ℕ)) → (b == 10) ≡ end → are_inner lines ≡ true
    → are_inner (cond end ([] ∷ lines) (cond return lines (with_line_byte b lines))) ≡ true
inner-case true return b lines is inner = inner
inner-case false true b lines is inner = inner
inner-case false false b lines is inner = inner-with b lines is inner

lines-inner : (bs : List ℕ) → are_inner (lines_of bs) ≡ true
lines-inner [] = refl
lines-inner (b ∷ bs) = inner-case (b == 10) ((b == 13) && begins_with 10 bs) b (lines_of bs) refl (lines-inner bs)

ended-again : (lines : List (List ℕ)) → are_inner lines ≡ true → lines_of (flat_map ended lines) ≡ lines
ended-again [] inner = refl
ended-again (line ∷ lines) inner =
    let p = and_parts (list_all is_inner line) (are_inner lines) inner in
    ap lines_of (append_assoc line (13 ∷ 10 ∷ []) (flat_map ended lines)) ∙ line-again line (flat_map ended lines) p.0 ∙ ap (λ ls. line ∷ ls) (ended-again lines p.1)

with-few : (b : ℕ) (lines : List (List ℕ)) (n : ℕ) → length lines ≤ n → length (with_line_byte b lines) ≤ suc n
with-few b [] n le = omega arith
with-few b (line ∷ lines) n le = omega arith

few-case : (end return : Bool) (b : ℕ) (lines : List (List ℕ)) (n : ℕ) → length lines ≤ n → length (cond end ([] ∷ lines) (cond return lines (with_line_byte b lines))) ≤ suc n
few-case true return b lines n le = omega arith
few-case false true b lines n le = omega arith
few-case false false b lines n le = with-few b lines n le

lines-few : (bs : List ℕ) → length (lines_of bs) ≤ length bs
lines-few [] = omega arith
lines-few (b ∷ bs) = few-case (b == 10) ((b == 13) && begins_with 10 bs) b (lines_of bs) (length bs) (lines-few bs)

-- a text that came of this many bytes
record Sized (n : ℕ) (text : List ℕ) : Type 0 where
  lines : length (lines_of text) ≤ n
  bytes : length text ≤ 2 * n

text-in-sized : (bs : List ℕ) (n : ℕ) → length bs + 6 ≤ n → Sized n (text_in bs)
unfolding text_in
text-in-sized bs n le = record {
  lines = omega (arith, ap length (ended-again (lines_of bs) (lines-inner bs)), lines-few bs);
  bytes = omega (arith, lines-size bs);
}

-- ---- what stands between a start and an end, and the text of block 4

when-some : (P : List ℕ → Type 0) (t : Bool) (bs : List ℕ) → (t ≡ true → P bs) → IfSome (cond t (Some bs) None) P
when-some P true bs p = p refl
when-some P false bs p = tt

fits : (k n : ℕ) (b c : Bool) → (nat_le k n && b && c) ≡ true → k ≤ n
fits k n b c h = grind (arith, nat_tests)

part-size : (k n j : ℕ) (group : List ℕ) → n ≡ length group → k ≤ n → length (take (n - k) (drop j group)) + k ≤ n
part-size k n j group e le = let a = length-take (n - k) (drop j group) in let b = length-drop j group in omega arith

between-size : (start end group : List ℕ) → IfSome (between start end group) (λ bs. length bs + (length start + length end) ≤ length group)
unfolding between
between-size start end group =
    when-some (λ bs. length bs + (length start + length end) ≤ length group) _ (take (length group - (length start + length end)) (drop (length start) group))
    (λ h. part-size (length start + length end) (length group) (length start) group refl (fits (length start + length end) (length group) _ _ h))

or-some : (P : List ℕ → Type 0) (o p : Option (List ℕ)) → IfSome o P → IfSome p P → IfSome (option_or o p) P
or-some P None p a b = b
or-some P (Some bs) p a b = a

then-some : (P Q : List ℕ → Type 0) (o : Option (List ℕ)) (f : List ℕ → Option (List ℕ)) → IfSome o P → ((bs : List ℕ) → P bs → IfSome (f bs) Q) → IfSome (o then f) Q
then-some P Q None f a b = tt
then-some P Q (Some bs) f a b = b bs a

weaker : (P Q : List ℕ → Type 0) (o : Option (List ℕ)) → ((bs : List ℕ) → P bs → Q bs) → IfSome o P → IfSome o Q
weaker P Q None f a = tt
weaker P Q (Some bs) f a = f bs a

text-of-sized : (group : Option (List ℕ)) (n : ℕ) → IsSmall n group → IfSome (text_of group) (Sized n)
unfolding text_of
text-of-sized None n le = tt
text-of-sized (Some group) n le =
    let P : List ℕ → Type 0 = λ bs. length bs + 6 ≤ n in
    let crlf : List ℕ = codes "{4:" ++ 13 ∷ 10 ∷ [] in
    let lf : List ℕ = codes "{4:" ++ 10 ∷ [] in
    then-some P (Sized n) (option_or (between crlf (codes "-}") group) (between lf (codes "-}") group)) _
    (or-some P _ _
    (weaker (λ bs. length bs + 7 ≤ length group) P (between crlf (codes "-}") group) (λ bs h. omega arith) (between-size crlf (codes "-}") group))
    (weaker (λ bs. length bs + 6 ≤ length group) P (between lf (codes "-}") group) (λ bs h. omega arith) (between-size lf (codes "-}") group)))
    (λ bs h. when-some (Sized n) _ (text_in bs) (λ _. text-in-sized bs n h))

-- ---- the text of a message

found : {F : Type 0} (o : Option (List ℕ)) (fault : F) (x : List ℕ) → or_fault o fault ≡ Ok x → o ≡ Some x
found (Some y) fault x e = ap (λ (z : List ℕ). Some z) (let same : y ≡ x = cc in same)
found None fault x e = absurd (cc e)

blocks-sized : (m : List ℕ) → IfOk (blocks_of m) (λ b. Sized (length m) b.text)
unfolding blocks_of
blocks-sized m =
    let third = groups_after (groups_after (groups_of m)) in
    let fourth = groups_past (codes "{3:") third in
    let P : Blocks → Type 0 = λ b. Sized (length m) b.text in
    passed P (or_fault (basic_of (next_group (groups_of m))) (fault.Bad (code "P01") None)) _ (λ basic _.
    passed P (check (bytes_eq basic.version (codes "01")) (fault.Bad (code "P02") None)) _ (λ _ _.
    passed P (or_fault (app_of (next_group (groups_after (groups_of m)))) (fault.Bad (code "P03") None)) _ (λ app _.
    passed P (or_fault (user_of third) (fault.Bad (code "P04") (mir_in app))) _ (λ user _.
    passed P (or_fault (text_of (next_group fourth)) (fault.Bad (code "P05") (mir_in app))) _ (λ text is.
    passed P (or_fault (ending_of (groups_after fourth)) (fault.Bad (code "P06") (mir_in app))) _ (λ trailers _.
    sized text (found (text_of (next_group fourth)) (fault.Bad (code "P05") (mir_in app)) text is)))))))
  where
    sized : (text : List ℕ) → text_of (next_group (groups_past (codes "{3:") (groups_after (groups_after (groups_of m))))) ≡ Some text → Sized (length m) text
    sized text is =
        let group = next_group (groups_past (codes "{3:") (groups_after (groups_after (groups_of m)))) in
        let short : IsSmall (length m) group = next-small (length m) (groups_past (codes "{3:") (groups_after (groups_after (groups_of m))))
        (past-small (length m) (codes "{3:") (groups_after (groups_after (groups_of m))) (after-small (length m) (groups_after (groups_of m)) (after-small (length m) (groups_of m) (groups-small m)))) in
        subst (λ o. IfSome o (Sized (length m))) is (text-of-sized group (length m) short)

pub text_lines : (m : List ℕ) (b : Blocks) → blocks_of m ≡ Ok b → length (lines_of b.text) ≤ length m
text_lines m b e = (subst (λ r. IfOk r (λ x. Sized (length m) x.text)) e (blocks-sized m)).lines

-- block 4 has at most twice the bytes of the message, since a line feed alone becomes CR LF
pub text_bytes : (m : List ℕ) (b : Blocks) → blocks_of m ≡ Ok b → length b.text ≤ 2 * length m
text_bytes m b e = (subst (λ r. IfOk r (λ x. Sized (length m) x.text)) e (blocks-sized m)).bytes
