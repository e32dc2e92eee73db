-- The bytes that stand for values.
use Rattle.std.proofs.Common.{◌≡◌, ℕ, zero, suc, Some, None, refl, sym, ap, ◌∙◌, arith}
use Rattle.std.proofs.lemmas.Option.{same_Some, none-some}
use Rattle.day_model.specs.declared.pay.Side.{Side}
use Rattle.day_model.specs.declared.pay.Side.TheVariants.{Debit, Credit}
use Rattle.day_model.specs.declared.pay.Mt.{Mt}
use Rattle.day_model.specs.declared.pay.Mt.TheVariants.{Transfer, Cover}
use Rattle.day_model.specs.declared.pay.Skip.{Skip}
use Rattle.day_model.specs.declared.pay.Skip.TheVariants.{Keep, Mid, Both}
use Rattle.jrn_codec.specs.Record.{mt_mark, side_mark, skip_mark}
use Rattle.jrn_codec.specs.inner.RecordReading.{mt_of, side_of, skip_marked}
use Rattle.jrn_codec.proofs.Fields.{differs}
use Rattle.jrn_codec.proofs.Parts.{IsMark}

mt_again : (x : Mt) → mt_of (mt_mark x) ≡ Some x
mt_again Transfer = refl
mt_again Cover = refl

mt_back : (b : ℕ) (x : Mt) → mt_of b ≡ Some x → mt_mark x ≡ b
mt_back zero x e = absurd cc
mt_back (suc zero) x e = sym (ap mt_mark (same_Some Transfer x e))
mt_back (suc (suc zero)) x e = sym (ap mt_mark (same_Some Cover x e))
mt_back (suc (suc (suc b))) x e =
    let none : mt_of (suc (suc (suc b))) ≡ None = simp (differs (suc (suc (suc b))) 1 (omega arith), differs (suc (suc (suc b))) 2 (omega arith)) refl in
    absurd (none-some x (sym none ∙ e))

pub mt_marks : IsMark mt_mark mt_of
mt_marks = record { again = mt_again; back = mt_back }

side_again : (x : Side) → side_of (side_mark x) ≡ Some x
side_again Debit = refl
side_again Credit = refl

side_back : (b : ℕ) (x : Side) → side_of b ≡ Some x → side_mark x ≡ b
side_back zero x e = sym (ap side_mark (same_Some Debit x e))
side_back (suc zero) x e = sym (ap side_mark (same_Some Credit x e))
side_back (suc (suc b)) x e =
    let none : side_of (suc (suc b)) ≡ None = simp (differs (suc (suc b)) 0 (omega arith), differs (suc (suc b)) 1 (omega arith)) refl in
    absurd (none-some x (sym none ∙ e))

pub side_marks : IsMark side_mark side_of
side_marks = record { again = side_again; back = side_back }

skip_again : (x : Skip) → skip_marked (skip_mark x) ≡ Some x
skip_again Keep = refl
skip_again Mid = refl
skip_again Both = refl

skip_back : (b : ℕ) (x : Skip) → skip_marked b ≡ Some x → skip_mark x ≡ b
skip_back zero x e = sym (ap skip_mark (same_Some Keep x e))
skip_back (suc zero) x e = sym (ap skip_mark (same_Some Mid x e))
skip_back (suc (suc zero)) x e = sym (ap skip_mark (same_Some Both x e))
skip_back (suc (suc (suc b))) x e =
    let none : skip_marked (suc (suc (suc b))) ≡ None = simp (differs (suc (suc (suc b))) 0 (omega arith), differs (suc (suc (suc b))) 1 (omega arith), differs (suc (suc (suc b))) 2 (omega arith)) refl in
    absurd (none-some x (sym none ∙ e))

pub skip_marks : IsMark skip_mark skip_marked
skip_marks = record { again = skip_again; back = skip_back }
