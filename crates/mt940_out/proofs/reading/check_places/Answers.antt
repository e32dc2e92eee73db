use Rattle.std.proofs.Common.{◌≡◌, ◌<◌, ℕ, false, List, Some, length, sym, ap, ◌∙◌, arith}
use Rattle.corr_text.specs.Codes.{code}
use Rattle.corr_text.specs.declared.fault.Fault.{Fault}
use Rattle.fin_layout.specs.Naming.{fault_at}
use Rattle.fin_layout.specs.Order.{missing_from, places_from}
use Rattle.mt950.specs.Order.{order_950}
use Rattle.mt940_out.specs.inner.Faults.{place_beside}
use Rattle.mt940_out.specs.Order.{fields_beside}
use Rattle.mt940_out.proofs.Walks.{found_beside, lacking-told, misplaced-told, none-told, stops-within}
use Rattle.mt940_out.proofs.reading.check_places.Goals as goal

pub fault_at-requires-clause-within : goal.fault_at-requires-clause-within
fault_at-requires-clause-within c =
    let fields = c.args.fields.now in
    let placed = c.as_slice-placed.ensures ∙ c.in_ok-found.ensures.value ∙ ap (places_from order_950 0) c.requires.beside in
    let lt : length (found_beside fields) < length (fields_beside fields) =
    omega (arith, c.if-placed-beside.true, c.in_ok-found.ensures.few, ap length c.as_slice-placed.ensures, ap length placed, ap length c.requires.beside) in
    let place : c.place_beside.result ≡ place_beside false fields (length (found_beside fields)) =
    c.place_beside.ensures ∙ ap (λ (ns : List ℕ). place_beside false fields (length ns)) placed in
    omega (arith, stops-within fields lt, place, ap length c.requires.same)

pub returns-then-placed-beside-clause-fault : goal.returns-then-placed-beside-clause-fault
returns-then-placed-beside-clause-fault c =
    let fields = c.args.fields.now in
    let placed = c.as_slice-placed.ensures ∙ c.in_ok-found.ensures.value ∙ ap (places_from order_950 0) c.requires.beside in
    let lt : length (found_beside fields) < length (fields_beside fields) =
    omega (arith, c.if-placed-beside.true, c.in_ok-found.ensures.few, ap length c.as_slice-placed.ensures, ap length placed, ap length c.requires.beside) in
    let place : c.place_beside.result ≡ place_beside false fields (length (found_beside fields)) =
    c.place_beside.ensures ∙ ap (λ (ns : List ℕ). place_beside false fields (length ns)) placed in
    misplaced-told fields lt ∙ ap (λ (x : Fault). Some x) (sym (c.fault_at.ensures ∙ (λ i. fault_at (c.requires.same i) (place i) (code "P22"))))

pub returns-in-Some-clause-fault : goal.returns-in-Some-clause-fault
returns-in-Some-clause-fault c =
    let fields = c.args.fields.now in
    let found = c.in_ok-found.ensures.value ∙ ap (places_from order_950 0) c.requires.beside in
    let all : length (found_beside fields) ≡ length (fields_beside fields) =
    omega (arith, c.if-placed-beside.false, ap length c.as_slice-placed.ensures, ap length found, ap length c.requires.beside) in
    lacking-told fields c.in-Some.at all (sym (c.missing.ensures.value ∙ ap (missing_from 0 order_950) (c.as_slice.ensures ∙ found)) ∙ c.in-Some.is)
    ∙ ap (λ (x : Fault). Some x) (sym c.absent.ensures)

pub returns-clause-sound : goal.returns-clause-sound
returns-clause-sound c =
    let fields = c.args.fields.now in
    let found = c.in_ok-found.ensures.value ∙ ap (places_from order_950 0) c.requires.beside in
    let all : length (found_beside fields) ≡ length (fields_beside fields) =
    omega (arith, c.if-placed-beside.false, ap length c.as_slice-placed.ensures, ap length found, ap length c.requires.beside) in
    none-told fields all (sym (c.missing.ensures.value ∙ ap (missing_from 0 order_950) (c.as_slice.ensures ∙ found)) ∙ c.in-None.is)
