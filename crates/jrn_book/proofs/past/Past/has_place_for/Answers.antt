use Rattle.std.proofs.Common.{◌≡◌, Bool, ℕ, true, false, Option, Some, None, rules, refl, ap, ◌∙◌, subst}
use Rattle.std.specs.Prelude.{is_none}
use Rattle.std.specs.Bool.{OnTrue}
use Rattle.day_model.specs.Next.{entered_at}
use Rattle.jrn_book.specs.inner.Index.{place_in}
use Rattle.jrn_book.specs.Reading.{Read}
use Rattle.jrn_book.proofs.Entering.{place_of}
use Rattle.jrn_book.proofs.past.Past.has_place_for.Goals as goal

none_where : (o : Option ℕ) (b : Bool) → b ≡ is_none o → OnTrue b (o ≡ None)
none_where None true is = refl
none_where None false is = tt
none_where (Some n) true is = absurd (cc)
none_where (Some n) false is = tt

pub returns-then-fits-clause-new : goal.returns-then-fits-clause-new
returns-then-fits-clause-new c =
    let mir = c.args.e.now.pay.mir in
    let is : c.is_none.result ≡ is_none c.place.result = search rules in
    let place : c.place.result ≡ entered_at mir c.args.self.now.history =
    c.place.ensures ∙ ap (place_in mir.0) c.self.invariant.2 ∙ place_of mir c.self.inside.history.entries ∙ ap (λ (r : Read). entered_at mir r.history) c.self.view_is in
    subst (λ (o : Option ℕ). OnTrue c.is_none.result (o ≡ None)) place (none_where c.place.result c.is_none.result is)

pub returns-then-fits-clause-all : goal.returns-then-fits-clause-all
returns-then-fits-clause-all c = λ follows.
    let mir = c.args.e.now.pay.mir in
    let is : c.is_none.result ≡ is_none c.place.result = search rules in
    let place : c.place.result ≡ entered_at mir c.args.self.now.history =
    c.place.ensures ∙ ap (place_in mir.0) c.self.invariant.2 ∙ place_of mir c.self.inside.history.entries ∙ ap (λ (r : Read). entered_at mir r.history) c.self.view_is in
    is ∙ ap (λ (o : Option ℕ). is_none o) (place ∙ follows.new)
