use Rattle.std.proofs.Common.{Bor, List, ℕ, ◌≡◌, ◌≤◌, ◌∙◌, sym, refl, rules, inl, inr, true, map, Some, ◌∷◌, [], length, arith}
use Rattle.std.specs.Result.{is_ok}
use Rattle.std.proofs.lemmas.List.{map-append, length-map}
use Rattle.csv.specs.Reading.{Reached, default_config, error_kind, strip_bom}
use Rattle.csv.specs.Records.{fields_of}
use Rattle.csv.specs.declared.parser.State.TheVariants as st
use Rattle.csv.proofs.ReadFacts.{rows-end, rows-more}
use Rattle.ref_tables.specs.Rows.{rows_of}
use Rattle.ref_tables.proofs.laws.Records.{records-begin, records-end, up_to-more, up_to-all}
use Rattle.ref_tables.proofs.ReadFaults.{is-read-fault}
use Rattle.ref_tables.proofs.rows.read_records.Goals as goal

pub loop-row-init : goal.loop-row-init
unfolding Reached
loop-row-init c =
    let fr = c.from_reader-reader.ensures in
    let e = c.has_headers.ensures in
    let f = c.flexible.ensures in
    let start = c.into_iter-row-iterator.ensures.into_iter_gives ∙ refl in
    let rdr = c.into_byte_records-row-items.ensures.rdr in
    let left = c.into_byte_records-row-items.ensures.left in
    rw (start, rdr, c.new-rows.ensures.items, c.new-rows.ensures.len) (
      rw (f, e) at fr.trim ∙ c.new.ensures.trim,
      inr (inr (rw (f, e) at fr.has_headers, fr.headers)),
      left,
      rw (f, e) at fr.config ∙ c.new.ensures.config,
      strip_bom c.args.file.now,
      fr.source,
      (sym fr.state, refl),
      omega arith,
      rw f at fr.flexible,
    )

pub returns-then-len-most : goal.returns-then-len-most
unfolding rows_of
returns-then-len-most c =
    let inv = c.loop-row.invariant in
    let s = rw (c.in-Some.is, c.in-Ok.is) at ((c.next.ensures.steps inv.2 inv.0).0 inv.1) in
    let m = rows-more (λ (s : Bor (List ℕ)). Some s.now) c.loop-row.row-iterator.rdr c.next.new.self.rdr (fields_of c.in-Ok.row) default_config st.StartRecord (strip_bom c.args.file.now) inv.4 (map fields_of c.loop-row.rows.items) inv.3 inv.5 inv.6 s.0 in
    let b = records-begin (strip_bom c.args.file.now) _ _ m.0 m.2 in
    let full : c.args.most ≤ length (map fields_of c.loop-row.rows.items) = simp length-map (omega arith) in
    sym (up_to-more c.args.most _ (map fields_of c.loop-row.rows.items) (fields_of c.in-Ok.row) b.0 b.1 full)

pub out_of_memory-requires : goal.out_of_memory-requires
out_of_memory-requires c =
    let inv = c.loop-row.invariant in
    let why = rw (c.in-Some.is, c.in-Err.is) at ((c.next.ensures.steps inv.2 inv.0).0 inv.1) in
    rw c.into_kind.ensures (is-read-fault (λ (s : Bor (List ℕ)). Some s.now) c.loop-row.row-iterator.rdr c.next.new.self.rdr (error_kind c.in-Err.e) inv.8 why)

pub loop-row-preserved : goal.loop-row-preserved
loop-row-preserved c =
    let inv = c.loop-row.invariant in
    let flexible = rw (c.in-Some.is, c.in-Ok.is) at (c.next.ensures.steps inv.2 inv.0).3 in
    let s = rw (c.in-Some.is, c.in-Ok.is) at ((c.next.ensures.steps inv.2 inv.0).0 inv.1) in
    let good : is_ok c.push.result ≡ true = search rules in
    let items = rw good at c.push.ensures.items in
    let len = rw good at c.push.ensures.len in
    let m = rows-more (λ (s : Bor (List ℕ)). Some s.now) c.loop-row.row-iterator.rdr c.next.new.self.rdr (fields_of c.in-Ok.row) default_config st.StartRecord (strip_bom c.args.file.now) inv.4 (map fields_of c.loop-row.rows.items) inv.3 inv.5 inv.6 s.0 in
    (s.0.3 ∙ inv.0, inl s.1, s.2, s.0.2 ∙ inv.3, m.0, m.1, rw (items, map-append fields_of c.loop-row.rows.items (c.in-Ok.row ∷ [])) m.2, omega arith, flexible ∙ inv.8)

pub returns : goal.returns
unfolding rows_of
returns c =
    let inv = c.loop-row.invariant in
    let s = rw c.in-None.is at ((c.next.ensures.steps inv.2 inv.0).0 inv.1) in
    let over = rows-end (λ (s : Bor (List ℕ)). Some s.now) c.loop-row.row-iterator.rdr c.next.new.self.rdr [] default_config inv.4 inv.3 inv.5 s in
    let all = records-end (strip_bom c.args.file.now) (map fields_of c.loop-row.rows.items) c.loop-row.row-iterator.rdr.state inv.4 inv.6 over in
    let few : length (map fields_of c.loop-row.rows.items) ≤ c.args.most = simp length-map (omega arith) in
    sym (up_to-all c.args.most _ (map fields_of c.loop-row.rows.items) all few)
