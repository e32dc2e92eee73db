use Rattle.std.proofs.Common.{sym, ◌∙◌, ap, subst, option_map, unwrap_or}
use Rattle.corr_disk.specs.Past.{Image, bytes_after}
use Rattle.corr_disk.proofs.Torn.{left_is_image}
use Rattle.corr_disk.proofs.fuse_disk.FuseDisk.left.Goals as goal

pub returns-in-Some : goal.returns-in-Some
returns-in-Some c =
    let f = c.args.self in
    let is = c.from_vec.ensures ∙ sym (ap (λ i. unwrap_or (option_map (λ v. v.items) i) (bytes_after f.disk.past.first f.disk.past.steps)) c.in-Some.is) ∙ f.left in
    record { image = subst (Image f.disk.past.first f.disk.past.steps) (sym is) (left_is_image f.torn f.disk.past.first f.disk.past.steps); picked = is }

pub returns-in-None : goal.returns-in-None
returns-in-None c =
    let f = c.args.self in
    let is = c.into_bytes.ensures ∙ sym (ap (λ i. unwrap_or (option_map (λ v. v.items) i) (bytes_after f.disk.past.first f.disk.past.steps)) c.in-None.is) ∙ f.left in
    record { image = subst (Image f.disk.past.first f.disk.past.steps) (sym is) (left_is_image f.torn f.disk.past.first f.disk.past.steps); picked = is }
