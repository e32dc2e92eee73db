use Rattle.std.proofs.Common.{◌≡◌, ◌≤◌, true, false, length, length-drop, ◌∙◌, ap, arith}
use Rattle.std.specs.Prelude.{◌==◌}
use Rattle.corr_top.proofs.KnownParts.{appended-more}
use Rattle.corr_top.proofs.writing.write_whole.Goals as goal

pub loop-rest-preserved : goal.loop-rest-preserved
loop-rest-preserved g c =
    let held = g.K.Sink.held in
    let part = c.loop-rest.invariant.part in
    let rest = c.loop-rest.rest.now in
    let count = c.in-Ok.count in
    let few : count ≤ length rest = c.in-Ok.ensures.bound in
    record {
      counted = c.loop-rest.invariant.counted;
      none = λ empty. let nothing : length rest ≡ 0 = omega (arith, ap length part.2, ap length empty, length-drop part.0 c.args.text.now) in let no : false ≡ true = c.loop-rest-test.ensures ∙ ap (λ n. n == 0) nothing in absurd (cc no);
      kept = c.in-Ok.ensures.cause.kept ∙ c.loop-rest.invariant.kept;
      part = let more = appended-more (held c.args.sink.now) (held c.loop-rest.sink) (held c.write.new.self) c.args.text.now rest part.0 count part.1 part.2 few part.3 c.in-Ok.ensures.bytes in
          (more.0, more.1, c.after-rest.ensures ∙ more.2, more.3);
    }
