use Rattle.std.proofs.Common.{ℕ, List, [], ◌∷◌, ◌++◌, ap, ◌∙◌}
use Rattle.std.proofs.lemmas.Result.{on_ok_weaker}
use Rattle.desk_page.specs.Twice.{stands_in}
use Rattle.desk_page.proofs.Known.{noted}
use Rattle.desk_page.proofs.twice.note.Goals as goal

pub returns-in_ok-add-in-Asks-2 : goal.returns-in_ok-add-in-Asks-2
returns-in_ok-add-in-Asks-2 c =
    let payment = c.in-Asks.payment in
    let terms = c.args.terms.now in
    on_ok_weaker c.add_uetr.result (λ adds. λ keys known key.
    adds ((keys ++ payment.mir.0 ∷ []) ++ terms ∷ []) (c.in_ok-add-in-Asks-2.ensures (keys ++ payment.mir.0 ∷ []) (c.in_ok-add-in-Asks.ensures keys known)) key
    ∙ ap (λ (ks : List (List ℕ)). stands_in ks key) (noted keys terms c.args.row.now payment c.in-Asks.standing c.in-Asks.is c.requires))
    c.add_uetr.ensures
