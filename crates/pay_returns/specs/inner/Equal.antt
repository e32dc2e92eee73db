-- When two pays are equal in all their parts.
use Rattle.std.specs.Prelude.{ℕ, ◌&&◌, Bool, List, Option}
use Rattle.std.specs.Str.{bytes_eq}
use Rattle.corr_ids.specs.declared.uetr.Uetr.{Uetr}
use Rattle.day_model.specs.Same.{is_mt, is_same_uetr}
use Rattle.day_model.specs.declared.pay.Mt.TheVariants.{Cover}
use Rattle.day_model.specs.declared.pay.Pay.{Pay}

-- a pay has this reference, the type of a cover, this UETR and this text
abbrev pub is_stamped_as : Pay → List ℕ → Option Uetr → List ℕ → Bool
is_stamped_as p mir uetr text = bytes_eq p.mir.0 mir && is_mt p.mt Cover && is_same_uetr p.uetr uetr && bytes_eq p.text text
