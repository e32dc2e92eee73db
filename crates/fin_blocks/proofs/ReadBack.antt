-- A sent message is read to the parts that it was written from.
use Rattle.std.proofs.Common.{◌≡◌, ℕ, ◌≤◌, List, [], ◌∷◌, ◌++◌, Option, Some, None, Ok, refl, sym, ap, ◌∙◌, append_assoc, arith}
use Rattle.std.specs.Prelude.{codes, IsTrue}
use Rattle.std.specs.List.{flat_map}
use Rattle.corr_text.specs.Digits.{padded}
use Rattle.corr_ids.specs.Address.{lt_text}
use Rattle.corr_ids.specs.Bic.{IsBic}
use Rattle.corr_ids.specs.declared.bic.Bic.{Bic}
use Rattle.fin_blocks.specs.Groups.{groups_of}
use Rattle.fin_blocks.specs.Forms.{inside}
use Rattle.fin_blocks.specs.Text.{crlf}
use Rattle.fin_blocks.specs.Blocks.{ending_of, groups_past, blocks_of, user_of}
use Rattle.fin_blocks.specs.Sending.{IsText, are_subblocks, lines_text, own_text, receiver_text, sent_blocks, sent_text, subblock_text, terminal_of, user_text}
use Rattle.fin_blocks.proofs.Between.{inside-again, inside-other}
use Rattle.fin_blocks.proofs.Braces.{balanced-both, balanced-plain, group-alone, group-first}
use Rattle.fin_blocks.proofs.SentParts.{lines-again, lines-plain, own-again, own-plain, receiver-again, receiver-plain}
use Rattle.fin_blocks.proofs.SentUser.{IsUser, user-again, user-parts}

-- the groups after block 2 say these subblocks, and the lines after them
record IsRead (groups : List (Option (List ℕ))) (user : List (ℕ × List ℕ)) (text : List ℕ) : Type 0 where
  subblocks : user_of groups ≡ Some user
  last : groups_past (codes "{3:") groups ≡ Some (lines_text text) ∷ []

-- blocks 1 and 2, and such groups after them, are a sent message
read-through : (m : List ℕ) (home to : Bic) (mt : ℕ) (groups : List (Option (List ℕ))) (user : List (ℕ × List ℕ)) (text : List ℕ)
    → groups_of m ≡ Some (own_text home) ∷ Some (receiver_text mt to) ∷ groups
    → IsBic home → IsBic to → mt ≤ 999 → IsText text → IsRead groups user text
    → blocks_of m ≡ Ok (sent_blocks home mt to user text)
unfolding blocks_of ending_of
read-through m home to mt groups user text cut own receiver low lines read =
    rw (cut, own-again home own, receiver-again mt to low receiver, read.subblocks, read.last, lines-again text lines) refl

-- each block is a group
own-first : (home : Bic) (rest : List ℕ) → IsBic home → groups_of (own_text home ++ rest) ≡ Some (own_text home) ∷ groups_of rest
own-first home rest h =
    let held : List ℕ = codes "1:F01" ++ lt_text (terminal_of home 65) ++ codes "0000000000" in
    let same : own_text home ≡ 123 ∷ held ++ 125 ∷ [] = simp append_assoc in
    ap (λ g. groups_of (g ++ rest)) same ∙ group-first held rest (balanced-plain held (own-plain home h)) ∙ ap (λ g. Some g ∷ groups_of rest) (sym same)

receiver-first : (mt : ℕ) (to : Bic) (rest : List ℕ) → mt ≤ 999 → IsBic to → groups_of (receiver_text mt to ++ rest) ≡ Some (receiver_text mt to) ∷ groups_of rest
receiver-first mt to rest low h =
    let held : List ℕ = codes "2:I" ++ padded 3 mt ++ lt_text (terminal_of to 88) ++ codes "N" in
    let same : receiver_text mt to ≡ 123 ∷ held ++ 125 ∷ [] = simp append_assoc in
    ap (λ g. groups_of (g ++ rest)) same ∙ group-first held rest (balanced-plain held (receiver-plain mt to low h)) ∙ ap (λ g. Some g ∷ groups_of rest) (sym same)

lines-alone : (text : List ℕ) → IsText text → groups_of (lines_text text) ≡ Some (lines_text text) ∷ []
lines-alone text h =
    let held : List ℕ = codes "4:" ++ crlf ++ text ++ codes "-" in
    let same : lines_text text ≡ 123 ∷ held ++ 125 ∷ [] = simp append_assoc in
    ap groups_of same ∙ group-alone held (balanced-plain held (lines-plain text h)) ∙ ap (λ g. Some g ∷ []) (sym same)

user-first : (s : ℕ × List ℕ) (more : List (ℕ × List ℕ)) (rest : List ℕ) → IsUser (s ∷ more) → groups_of (user_text (s ∷ more) ++ rest) ≡ Some (user_text (s ∷ more)) ∷ groups_of rest
user-first s more rest h =
    group-first (codes "3:" ++ flat_map subblock_text (s ∷ more)) rest
    (balanced-both (codes "3:") (flat_map subblock_text (s ∷ more)) (balanced-plain (codes "3:") refl) h.balanced)

-- block 3 where it stands, and where it does not
rest-read : (user : List (ℕ × List ℕ)) (text : List ℕ) → IsUser user → IsText text → IsRead (groups_of (user_text user ++ lines_text text)) user text
rest-read [] text u h =
    let none : inside (codes "{3:") (Some (lines_text text)) ≡ None = inside-other (codes "{3:") (lines_text text) refl in
    record { subblocks = rw (lines-alone text h, none) refl; last = rw (lines-alone text h, none) refl }
rest-read (s ∷ more) text u h =
    let cut = user-first s more (lines_text text) u ∙ ap (λ gs. Some (user_text (s ∷ more)) ∷ gs) (lines-alone text h) in
    let some : inside (codes "{3:") (Some (user_text (s ∷ more))) ≡ Some (flat_map subblock_text (s ∷ more)) = inside-again (codes "{3:") (flat_map subblock_text (s ∷ more)) in
    record { subblocks = rw (cut, some) (user-again s more u); last = rw (cut, some) refl }

pub read-back : (home : Bic) (mt : ℕ) (to : Bic) (user : List (ℕ × List ℕ)) (text : List ℕ)
    → IsBic home → IsBic to → mt ≤ 999 → IsTrue (are_subblocks user) → IsText text
    → blocks_of (sent_text home mt to user text) ≡ Ok (sent_blocks home mt to user text)
unfolding sent_text
read-back home mt to user text own receiver low subs lines =
    let rest : List ℕ = user_text user ++ lines_text text in
    let whole : own_text home ++ receiver_text mt to ++ user_text user ++ lines_text text ≡ own_text home ++ (receiver_text mt to ++ rest) =
    append_assoc (own_text home ++ receiver_text mt to) (user_text user) (lines_text text) ∙ append_assoc (own_text home) (receiver_text mt to) rest in
    let cut : groups_of (sent_text home mt to user text) ≡ Some (own_text home) ∷ Some (receiver_text mt to) ∷ groups_of rest =
    ap groups_of whole ∙ own-first home (receiver_text mt to ++ rest) own ∙ ap (λ gs. Some (own_text home) ∷ gs) (receiver-first mt to rest low receiver) in
    read-through (sent_text home mt to user text) home to mt (groups_of rest) user text cut own receiver low lines (rest-read user text (user-parts user subs) lines)

pub ruleset reading_back = (arith, read-back)
