-- A page more: it goes to the open piece of its account, or begins a piece.
use Rattle.std.proofs.Common.{◌≡◌, ◌&&◌, Bool, true, false, cond, List, [], ◌∷◌, ◌++◌, map, None, refl, sym, ap, ◌∙◌, append_assoc}
use Rattle.std.specs.List.{filter, last_or}
use Rattle.std.specs.Str.{bytes_eq}
use Rattle.std.proofs.lemmas.List.{append-nil}
use Rattle.std.proofs.lemmas.List.Elements.{filter-append}
use Rattle.mt950.specs.declared.page.Page950.{Page950}
use Rattle.reconcile.specs.inner.Gathering.{page_account, is_open}
use Rattle.reconcile.specs.Pieces.{begins_piece, is_unfinished, is_of, piece_of, pieces_from, pieces_of, until_closed}
use Rattle.reconcile.proofs.Keyed.{short-eq}

-- the piece with the page, where it is the open one of its account
abbrev pub extended : Page950 → List Page950 → List Page950
extended p piece = cond (is_open (page_account p) piece) (piece ++ p ∷ []) piece

-- the piece that the page begins, where it begins one
abbrev pub begun : Bool → Page950 → List (List Page950)
begun b p = cond b ((p ∷ []) ∷ []) []

nothing-else : (b : Bool) (p : Page950) → p ∷ cond b [] [] ≡ p ∷ []
nothing-else true p = refl
nothing-else false p = refl

alone : (p : Page950) → until_closed (p ∷ []) ≡ p ∷ []
alone p = nothing-else p.closing.last p

-- ---- one piece

-- a piece that may go on after its last page
abbrev going : List Page950 → Bool
going piece = is_unfinished (last_or None piece)

-- with this page where it goes on
abbrev with : Page950 → List Page950 → List Page950
with p piece = cond (going piece) (piece ++ p ∷ []) piece

in-front : (b : Bool) (q : Page950) (xs ys : List Page950) → q ∷ cond b xs ys ≡ cond b (q ∷ xs) (q ∷ ys)
in-front true q xs ys = refl
in-front false q xs ys = refl

going-closed : (q : Page950) (b : Bool) → q.closing.last ≡ b → going (q ∷ []) ≡ cond b false true
going-closed q b e = ap (λ (x : Bool). cond x false true) e

with-closed : (q p : Page950) → q.closing.last ≡ true → with p (q ∷ []) ≡ q ∷ []
with-closed q p e = ap (λ (g : Bool). cond g (q ∷ p ∷ []) (q ∷ [])) (going-closed q true e)

with-open : (q p : Page950) → q.closing.last ≡ false → with p (q ∷ []) ≡ q ∷ p ∷ []
with-open q p e = ap (λ (g : Bool). cond g (q ∷ p ∷ []) (q ∷ [])) (going-closed q false e)

next-one : (b : Bool) (q p : Page950) → q.closing.last ≡ b → q ∷ cond b [] (until_closed (p ∷ [])) ≡ with p (q ∷ cond b [] [])
next-one true q p e = sym (with-closed q p e)
next-one false q p e = ap (λ (ps : List Page950). q ∷ ps) (alone p) ∙ sym (with-open q p e)

next-more : (b : Bool) (q r p : Page950) (rest tail : List Page950) → q.closing.last ≡ b → rest ≡ with p (r ∷ tail) → q ∷ cond b [] rest ≡ with p (q ∷ cond b [] (r ∷ tail))
next-more true q r p rest tail e f = sym (with-closed q p e)
next-more false q r p rest tail e f = ap (λ (ps : List Page950). q ∷ ps) f ∙ in-front (going (r ∷ tail)) q (r ∷ tail ++ p ∷ []) (r ∷ tail)

until-more : (q : Page950) (fs : List Page950) (p : Page950) → until_closed (q ∷ fs ++ p ∷ []) ≡ with p (until_closed (q ∷ fs))
until-more q [] p = next-one q.closing.last q p refl
until-more q (r ∷ fs) p = next-more q.closing.last q r p (until_closed (r ∷ fs ++ p ∷ [])) (cond r.closing.last [] (until_closed fs)) refl (until-more r fs p)

grown : (b : Bool) (q : Page950) (fs : List Page950) (p : Page950) → bytes_eq (page_account p) (page_account q) ≡ b → until_closed (q ∷ fs ++ cond b (p ∷ []) []) ≡ extended p (until_closed (q ∷ fs))
grown true q fs p e =
    until-more q fs p ∙ ap (λ (x : Bool). cond (x && going (until_closed (q ∷ fs))) (until_closed (q ∷ fs) ++ p ∷ []) (until_closed (q ∷ fs))) (sym e)
grown false q fs p e =
    ap (λ (ps : List Page950). until_closed (q ∷ ps)) (append-nil fs)
    ∙ ap (λ (x : Bool). cond (x && going (until_closed (q ∷ fs))) (until_closed (q ∷ fs) ++ p ∷ []) (until_closed (q ∷ fs))) (sym e)

piece-more : (q : Page950) (rest : List Page950) (p : Page950) → piece_of q (rest ++ p ∷ []) ≡ extended p (piece_of q rest)
piece-more q rest p =
    ap (λ (ps : List Page950). until_closed (q ∷ ps)) (filter-append (is_of q) rest (p ∷ []))
    ∙ grown (is_of q p) q (filter (is_of q) rest) p (short-eq 36 p.account q.account)

-- ---- all pieces

begun-last : (b : Bool) (p : Page950) → cond b (piece_of p [] ∷ []) [] ++ [] ≡ begun b p
begun-last true p = ap (λ (piece : List Page950). piece ∷ []) (alone p)
begun-last false p = refl

both : (b : Bool) (p : Page950) (big small : List Page950) (more rest new : List (List Page950)) → big ≡ extended p small → more ≡ map (extended p) rest ++ new
    → cond b (big ∷ []) [] ++ more ≡ map (extended p) (cond b (small ∷ []) [] ++ rest) ++ new
both true p big small more rest new e f = λ i. e i ∷ f i
both false p big small more rest new e f = f

pieces-from-more : (ahead rest : List Page950) (p : Page950) → pieces_from ahead (rest ++ p ∷ []) ≡ map (extended p) (pieces_from ahead rest) ++ begun (begins_piece (ahead ++ rest) p) p
pieces-from-more ahead [] p = begun-last (begins_piece ahead p) p ∙ ap (λ (ps : List Page950). begun (begins_piece ps p) p) (sym (append-nil ahead))
pieces-from-more ahead (q ∷ rest) p =
    both (begins_piece ahead q) p (piece_of q (rest ++ p ∷ [])) (piece_of q rest) (pieces_from (ahead ++ q ∷ []) (rest ++ p ∷ [])) (pieces_from (ahead ++ q ∷ []) rest) (begun (begins_piece (ahead ++ q ∷ rest) p) p)
    (piece-more q rest p)
    (pieces-from-more (ahead ++ q ∷ []) rest p ∙ ap (λ (ps : List Page950). map (extended p) (pieces_from (ahead ++ q ∷ []) rest) ++ begun (begins_piece ps p) p) (append_assoc ahead (q ∷ []) rest))

pub pieces-more : (front : List Page950) (p : Page950) → pieces_of (front ++ p ∷ []) ≡ map (extended p) (pieces_of front) ++ begun (begins_piece front p) p
pieces-more front p = pieces-from-more [] front p
