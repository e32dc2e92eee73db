use Rattle.std.proofs.Common.{◌≡◌, ◌<◌, ◌+◌, ◌∷◌, ◌++◌, List, ℕ, drop, length, set, take, ap, ◌∙◌, arith}
use Rattle.std.proofs.lemmas.Result.{on_ok_weaker}
use Rattle.corr_text.proofs.Places.{put-there}
use Rattle.corr_text.proofs.list.List+Text.put_at.Goals as goal

pub returns-then-at-len-clause-ok : goal.returns-then-at-len-clause-ok
returns-then-at-len-clause-ok c =
    let texts = c.self.inside.items.items in
    let inside : c.args.at < length texts = omega (arith, c.if-at-len.true, c.len.ensures) in
    let there : set texts c.args.at c.args.b.now ≡ take c.args.at c.args.self.now ++ c.args.b.now ∷ drop (c.args.at + 1) c.args.self.now =
    put-there texts c.args.at c.args.b.now inside ∙ ap (λ (xs : List (List ℕ)). take c.args.at xs ++ c.args.b.now ∷ drop (c.args.at + 1) xs) c.self.view_is in
    on_ok_weaker c.refill.result (λ filled. ap (set texts c.args.at) filled ∙ there) c.refill.ensures.ok
