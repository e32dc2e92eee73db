-- When two pays are the same, and the reply to a pay.
use Rattle.std.specs.Prelude.{ℕ, ◌-◌, ◌&&◌, Bool, true, false, List, Option, Some, None, option_and_then, slice_get, if◌then◌else◌}
use Rattle.std.specs.Str.{bytes_eq}
use Rattle.corr_ids.specs.declared.uetr.Uetr.{Uetr}
use Rattle.day_model.specs.declared.pay.Mt.{Mt}
use Rattle.day_model.specs.declared.pay.Mt.TheVariants.{Transfer, Cover}
use Rattle.day_model.specs.declared.pay.Pay.{Pay}
use Rattle.day_model.specs.declared.entry.Entry.{Entry}
use Rattle.day_model.specs.declared.reply.Reply.{Reply}
use Rattle.day_model.specs.declared.reply.Reply.TheVariants.{Entered, Conflict}
use Rattle.day_model.specs.Next.{entered_at}

-- two types of message are the same
abbrev pub is_mt : Mt → Mt → Bool
is_mt Transfer Transfer = true
is_mt Cover Cover = true
is_mt Transfer Cover = false
is_mt Cover Transfer = false

-- two UETRs are the same, or both are absent
abbrev pub is_same_uetr : Option Uetr → Option Uetr → Bool
is_same_uetr (Some u) (Some v) = bytes_eq u.0 v.0
is_same_uetr (Some u) None = false
is_same_uetr None (Some v) = false
is_same_uetr None None = true

-- reference, type, UETR and text agree
abbrev pub is_same_pay : Pay → Pay → Bool
is_same_pay p q = bytes_eq p.mir.0 q.mir.0 && is_mt p.mt q.mt && is_same_uetr p.uetr q.uetr && bytes_eq p.text q.text

-- the reply that the entry at a place gives to a pay of its reference
abbrev pub reply_at : Pay → ℕ → Option Entry → Option Reply
reply_at pay place (Some entry) = Some (if is_same_pay pay entry.pay then Entered pay.mir place else Conflict pay.mir place)
reply_at pay place None = None

-- the reply to a valid pay that has a route; none where its reference isn't entered
abbrev pub reply_to : Pay → List Entry → Option Reply
reply_to pay entries = option_and_then (λ place. reply_at pay place (slice_get entries (place - 1))) (entered_at pay.mir entries)
