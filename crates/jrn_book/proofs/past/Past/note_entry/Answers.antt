use Rattle.std.proofs.Common.{◌≡◌, ℕ, ◌≤◌, All, List, [], ◌∷◌, ◌++◌, length, ap, ◌∙◌, subst, sym}
use Rattle.std.proofs.Math.Seq.{take-append_seam}
use Rattle.day_model.specs.Chart.{accounts_of}
use Rattle.day_model.specs.declared.pay.Leg.{Leg}
use Rattle.day_model.specs.declared.entry.Entry.{Entry}
use Rattle.day_model.specs.Legal.{IsLegal}
use Rattle.day_model.specs.Pairs.{PairsFit, pairs_with}
use Rattle.day_model.specs.Totals.{HasTotals, Pair, booked_legs}
use Rattle.day_model.proofs.laws.Folds.{get_at}
use Rattle.day_model.proofs.laws.Histories.{entry_fits, has_entry}
use Rattle.day_model.proofs.laws.Pairs.{booked_listed}
use Rattle.jrn_book.specs.declared.version.Version.TheVariants.{Two}
use Rattle.day_model.specs.declared.change.Item.TheVariants.{Entered}
use Rattle.jrn_book.specs.Index.{references_of}
use Rattle.jrn_book.specs.inner.Index.{place_in}
use Rattle.jrn_book.specs.Journal.{IsJournal}
use Rattle.jrn_book.specs.Reading.{Read}
use Rattle.jrn_book.proofs.Entering.{place_of, references_more}
use Rattle.jrn_book.proofs.Following.{legal_follows}
use Rattle.jrn_book.proofs.Items.{journal_with}
use Rattle.jrn_book.proofs.past.Past.note_entry.Goals as goal

pub add_legs-requires-clause-listed : goal.add_legs-requires-clause-listed
add_legs-requires-clause-listed c =
    let h = c.self.inside.history.entries in
    let chart = c.self.inside.accounts in
    let e = c.args.e in
    let legal : IsLegal chart (h ++ e ∷ []) = subst (λ (r : Read). IsLegal r.accounts (r.history ++ e ∷ [])) (sym c.self.view_is) c.requires.legal in
    let listed = booked_listed chart (h ++ e ∷ []) e (length h) legal (get_at h e []) in
    subst (λ (x : List Leg × ℕ). All (λ (leg : Leg). (1 ≤ leg.account.0) × (leg.account.0 ≤ x.1)) x.0) (λ k. (sym c.legs_booked.ensures k, sym c.self.invariant.1.size k)) listed

pub add_legs-requires-clause-fits : goal.add_legs-requires-clause-fits
add_legs-requires-clause-fits c =
    let h = c.self.inside.history.entries in
    let chart = c.self.inside.accounts in
    let e = c.args.e in
    let pairs = c.self.inside.pairs.items in
    let legal : IsLegal chart (h ++ e ∷ []) = subst (λ (r : Read). IsLegal r.accounts (r.history ++ e ∷ [])) (sym c.self.view_is) c.requires.legal in
    let totals = subst (λ (es : List Entry). HasTotals pairs (length (accounts_of chart)) es) (sym (take-append_seam h (e ∷ []))) c.self.invariant.1 in
    subst (λ (ls : List Leg). PairsFit ls pairs) (sym c.legs_booked.ensures) (entry_fits chart (h ++ e ∷ []) e (length h) pairs legal (get_at h e []) totals)

pub note-requires-clause-new : goal.note-requires-clause-new
note-requires-clause-new c =
    let h = c.self.inside.history.entries in
    let chart = c.self.inside.accounts in
    let e = c.args.e in
    let legal : IsLegal chart (h ++ e ∷ []) = subst (λ (r : Read). IsLegal r.accounts (r.history ++ e ∷ [])) (sym c.self.view_is) c.requires.legal in
    ap (place_in e.pay.mir.0) c.self.invariant.2 ∙ place_of e.pay.mir h ∙ (legal_follows chart h e legal).new

pub invariant_of-self : goal.invariant_of-self
invariant_of-self c =
    let h = c.self.inside.history.entries in
    let chart = c.self.inside.accounts in
    let e = c.args.e in
    let count = length (accounts_of chart) in
    let pairs = c.self.inside.pairs.items in
    let legal : IsLegal chart (h ++ e ∷ []) = subst (λ (r : Read). IsLegal r.accounts (r.history ++ e ∷ [])) (sym c.self.view_is) c.requires.legal in
    let now : c.note.new.history.entries ≡ h ++ e ∷ [] = c.note.ensures.history in
    let is : c.add_legs.new.pairs.items ≡ pairs_with (booked_legs e) pairs = c.add_legs.ensures ∙ ap (λ (ls : List Leg). pairs_with ls pairs) c.legs_booked.ensures in
    let Totals : List Pair × List Entry → Type 0 = λ x. HasTotals x.0 count x.1 in (
      subst (IsJournal chart) (sym now) (journal_with Two chart h (Entered e) c.self.invariant.0 (c.requires.written, legal)),
      subst Totals (λ i. (sym is i, sym now i)) (has_entry h e count pairs c.self.invariant.1),
      c.note.ensures.index ∙ ap (λ (rs : List (List ℕ)). rs ++ e.pay.mir.0 ∷ []) c.self.invariant.2 ∙ sym (references_more h e) ∙ ap references_of (sym now),
    )
