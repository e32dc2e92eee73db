-- What was received is no return: the text of a return has no field 32A.
use Rattle.std.proofs.Common.{◌≡◌, ℕ, ◌-◌, ◌≤◌, false, List, Option, Some, None, refl, sym, ap, ◌∙◌, arith}
use Rattle.std.specs.Prelude.{codes}
use Rattle.std.specs.List.{list_any}
use Rattle.std.proofs.lemmas.Bool.{false≢true}
use Rattle.std.proofs.lemmas.Option.{same_Some, slice_get_within}
use Rattle.day_model.specs.declared.entry.Entry.{Entry}
use Rattle.day_model.specs.declared.pay.Pay.{Pay}
use Rattle.advices.specs.Fields.{is_named}
use Rattle.pay_returns.specs.Laws.{ReceivedIsNoReturn, has_32A}
use Rattle.pay_returns.specs.Opposite.{return_text}
use Rattle.pay_returns.specs.References.{related_of}
use Rattle.pay_returns.specs.Returns.{returns_place}
use Rattle.pay_returns.proofs.Quotes.{related-reference}
use Rattle.pay_returns.proofs.TextCut.{fields-cut}
use Rattle.pay_returns.proofs.laws.Tagging.{at-some, opposite-is, returned}
use Rattle.pay_returns.proofs.laws.Words.{return-reference}

-- its fields are 20 and 21
without-32A : (place : ℕ) (text : List ℕ) → place ≤ 100000 → has_32A (return_text place (related_of text)) ≡ false
without-32A place text small =
    ap (list_any (is_named 32 (codes "A"))) (fields-cut place (related_of text) (return-reference place small).plain (related-reference text).plain)

pub received-no-return : ReceivedIsNoReturn
received-no-return chart entries r entry rules at has = none (returns_place chart entries r) refl
  where
    none : (o : Option ℕ) → returns_place chart entries r ≡ o → o ≡ None
    none None e = refl
    none (Some place) e =
        let t = returned chart entries r place e in
        let here = at-some r entries entry at in
        let same : t.entry ≡ entry = same_Some t.entry entry (sym t.at ∙ here.1) in
        let lt = slice_get_within entries (r - 1) t.entry t.at in
        let text : t.entry.pay.text ≡ return_text place (related_of t.origin.pay.text) = ap (λ (p : Pay). p.text) (opposite-is chart t.origin place t.entry.pay t.opposite) in
        let said : has_32A t.entry.pay.text ≡ false = ap has_32A text ∙ without-32A place t.origin.pay.text (omega (arith, lt, t.before, t.from, rules.short)) in
        absurd (false≢true (sym said ∙ ap (λ (x : Entry). has_32A x.pay.text) same ∙ has))
