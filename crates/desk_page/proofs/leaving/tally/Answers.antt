use Rattle.std.proofs.Common.{◌≡◌, ◌+◌, ◌≤◌, ℕ, List, [], Option, take, get_or, length, sym, ap, ◌∙◌, arith}
use Rattle.std.specs.Map.{lookup}
use Rattle.std.specs.Option.{unwrap_or}
use Rattle.std.proofs.lemmas.List.{length-take-le, take_more}
use Rattle.desk_page.specs.declared.leaving.Kind.{Kind}
use Rattle.desk_page.specs.Leaving.{is_same_kind}
use Rattle.desk_page.specs.Tally.{count_of, tally_of}
use Rattle.desk_page.proofs.Receivers.{itself, same}
use Rattle.desk_page.proofs.Tallies.{count_within, tallied, tally_more}
use Rattle.desk_page.proofs.leaving.tally.Goals as goal

-- the kind at an index
abbrev item : List Kind → ℕ → Kind
item kinds i = get_or kinds i (record { head = []; branch = []; mt = 0 })

-- what a tally says of a kind
abbrev said : Kind → List (Kind × ℕ) → ℕ
said kind counts = unwrap_or (lookup (is_same_kind kind) counts) 0

pub overflow_add-n : goal.overflow_add-n
overflow_add-n c =
    let kinds : List Kind = c.args.kinds.now in
    let i : ℕ = c.loop-kind.kind-index in
    let kind : Kind = item kinds i in
    let was : c.unwrap_or-n.result ≡ said kind c.loop-kind.counts.entries = c.unwrap_or-n.ensures ∙ ap (λ (o : Option ℕ). unwrap_or o 0) (c.copied.ensures ∙ c.get.ensures.value) in
    let number : c.unwrap_or-n.result ≡ count_of is_same_kind kind (take i kinds) = was ∙ ap (said kind) c.loop-kind.invariant ∙ tallied is_same_kind same itself (take i kinds) kind in
    let few : count_of is_same_kind kind (take i kinds) ≤ length (take i kinds) = count_within is_same_kind same itself kind (take i kinds) in
    let front : length (take i kinds) ≡ i = length-take-le i kinds (omega (arith, c.loop-kind-test.true)) in
    omega (arith, number, few, front, c.loop-kind-test.true, c.loop-kind.auto.kind-index-end)

pub loop-kind-preserved : goal.loop-kind-preserved
loop-kind-preserved c =
    let kinds : List Kind = c.args.kinds.now in
    let i : ℕ = c.loop-kind.kind-index in
    let kind : Kind = item kinds i in
    let was : c.unwrap_or-n.result ≡ said kind c.loop-kind.counts.entries = c.unwrap_or-n.ensures ∙ ap (λ (o : Option ℕ). unwrap_or o 0) (c.copied.ensures ∙ c.get.ensures.value) in
    tally_more is_same_kind same itself (take i kinds) kind c.loop-kind.counts.entries c.insert.new.self.entries c.unwrap_or-n.result c.loop-kind.invariant was c.in_ok-insert.ensures.entries
    ∙ ap (tally_of is_same_kind) (sym (take_more kinds i _ c.loop-kind-test.true))
