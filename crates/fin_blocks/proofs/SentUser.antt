-- Block 3 of a sent message is one group, and is read to its subblocks.
use Rattle.std.proofs.Common.{◌≡◌, ℕ, ◌&&◌, Bool, true, List, [], ◌∷◌, ◌++◌, length, map, drop, Option, Some, refl, sym, ap, ◌∙◌, length-append, arith}
use Rattle.std.specs.Prelude.{codes, nat_le, nat_lt}
use Rattle.std.specs.List.{flat_map, list_all}
use Rattle.std.proofs.lemmas.Bool.{and_parts, leb-true, le-leb, lt-ltb}
use Rattle.std.proofs.lemmas.List.{take_at, drop_at, drop-drop, get_or_at}
use Rattle.corr_text.specs.Digits.{padded}
use Rattle.fin_blocks.specs.Groups.{groups_of}
use Rattle.fin_blocks.specs.Forms.{each_of, is_plain, is_tagged, tagged_of}
use Rattle.fin_blocks.specs.User.{are_distinct, may_hold, subblock_of, subblocks_in}
use Rattle.fin_blocks.specs.Sending.{are_subblocks, subblock_text}
use Rattle.fin_blocks.proofs.Between.{inside-again}
use Rattle.fin_blocks.proofs.Braces.{IsBalanced, balanced-none, balanced-both, balanced-plain, balanced-group, group-first}
use Rattle.fin_blocks.proofs.Pieces.{groups-none}
use Rattle.fin_blocks.proofs.SentParts.{IsThree, three-digits, plain-both}

abbrev is_subblock : ℕ × List ℕ → Bool
is_subblock s = nat_le s.0 999 && is_plain s.1 && may_hold s.0 s.1

record IsSubblock (s : ℕ × List ℕ) : Type 0 where
  three : IsThree (padded 3 s.0) s.0
  plain : is_plain s.1 ≡ true
  may : may_hold s.0 s.1 ≡ true

subblock : (s : ℕ × List ℕ) → is_subblock s ≡ true → IsSubblock s
subblock s h =
    let p = and_parts (nat_le s.0 999 && is_plain s.1) (may_hold s.0 s.1) h in
    let q = and_parts (nat_le s.0 999) (is_plain s.1) p.0 in
    record { three = three-digits s.0 (leb-true s.0 999 q.0); plain = q.1; may = p.1 }

-- a piece of three bytes and a text
tagged-again : (tag text : List ℕ) → length tag ≡ 3 → is_plain text ≡ true → tagged_of (Some (123 ∷ tag ++ 58 ∷ text ++ 125 ∷ [])) ≡ Some (tag, text)
unfolding tagged_of is_tagged
tagged-again tag text three plain =
    let held : List ℕ = tag ++ 58 ∷ text in
    let long : nat_le 4 (length held) ≡ true = le-leb 4 (length held) (omega (arith, three, length-append tag (58 ∷ text))) in
    let after : drop 4 held ≡ text = sym (drop-drop 1 3 held) ∙ ap (drop 1) (drop_at tag (58 ∷ text) 3 three) in
    rw (inside-again (codes "{") held, long, get_or_at tag 58 text 0 3 three, after, plain, take_at tag (58 ∷ text) 3 three) refl

subblock-again : (s : ℕ × List ℕ) → IsSubblock s → subblock_of (Some (subblock_text s)) ≡ Some s
unfolding subblock_of
subblock-again s h = rw (tagged-again (padded 3 s.0) s.1 h.three.long h.plain, h.three.number, h.may) refl

subblock-balanced : (s : ℕ × List ℕ) → IsSubblock s → IsBalanced (padded 3 s.0 ++ 58 ∷ s.1)
subblock-balanced s h = balanced-plain (padded 3 s.0 ++ 58 ∷ s.1) (plain-both (padded 3 s.0) (58 ∷ s.1) h.three.plain h.plain)

-- a subblock's group
abbrev group_of : ℕ × List ℕ → Option (List ℕ)
group_of s = Some (subblock_text s)

-- subblocks are one group each
user-groups : (user : List (ℕ × List ℕ)) → list_all is_subblock user ≡ true → groups_of (flat_map subblock_text user) ≡ map group_of user
user-groups [] h = groups-none [] refl
user-groups (s ∷ user) h =
    let p = and_parts (is_subblock s) (list_all is_subblock user) h in
    group-first (padded 3 s.0 ++ 58 ∷ s.1) (flat_map subblock_text user) (subblock-balanced s (subblock s p.0))
    ∙ ap (λ gs. group_of s ∷ gs) (user-groups user p.1)

user-balanced : (user : List (ℕ × List ℕ)) → list_all is_subblock user ≡ true → IsBalanced (flat_map subblock_text user)
user-balanced [] h = balanced-none
user-balanced (s ∷ user) h =
    let p = and_parts (is_subblock s) (list_all is_subblock user) h in
    balanced-both (subblock_text s) (flat_map subblock_text user)
    (balanced-group (padded 3 s.0 ++ 58 ∷ s.1) (subblock-balanced s (subblock s p.0))) (user-balanced user p.1)

each-again : (user : List (ℕ × List ℕ)) → list_all is_subblock user ≡ true → each_of subblock_of (map group_of user) ≡ Some user
unfolding each_of
each-again [] h = refl
each-again (s ∷ user) h =
    let p = and_parts (is_subblock s) (list_all is_subblock user) h in
    rw (subblock-again s (subblock s p.0), each-again user p.1) refl

-- what the subblocks of a sent message are
pub record IsUser (user : List (ℕ × List ℕ)) : Type 0 where
  pub balanced : IsBalanced (flat_map subblock_text user)
  pub groups : groups_of (flat_map subblock_text user) ≡ map group_of user
  pub each : each_of subblock_of (map group_of user) ≡ Some user
  pub distinct : are_distinct (map (λ s. s.0) user) ≡ true

pub user-parts : (user : List (ℕ × List ℕ)) → are_subblocks user ≡ true → IsUser user
unfolding are_subblocks
user-parts user h =
    let p = and_parts (list_all is_subblock user) (are_distinct (map (λ s. s.0) user)) h in
    record { balanced = user-balanced user p.0; groups = user-groups user p.0; each = each-again user p.0; distinct = p.1 }

pub user-again : (s : ℕ × List ℕ) (more : List (ℕ × List ℕ)) → IsUser (s ∷ more) → subblocks_in (flat_map subblock_text (s ∷ more)) ≡ Some (s ∷ more)
unfolding subblocks_in
user-again s more h =
    let some : nat_lt 0 (length (s ∷ more)) ≡ true = lt-ltb 0 (length (s ∷ more)) (omega arith) in
    rw (h.groups, h.each, h.distinct, some) refl
