-- What threads make of parts of a history and of what was served, side by side.
use Rattle.std.specs.Prelude.{◌≡◌, ℕ, All, List, take}
use Rattle.corr_ids.specs.Bic.{IsBic}
use Rattle.corr_report.specs.Lines.{numbered}
use Rattle.corr_report.specs.Report.{NamesPlace, reply_line}
use Rattle.day_model.specs.Chart.{Chart}
use Rattle.day_model.specs.Legal.{IsLegal}
use Rattle.day_model.specs.declared.entry.Entry.{Entry}
use Rattle.day_model.specs.declared.reply.Reply.{Reply}
use Rattle.corr_top.specs.Out.{sent_from}
use Rattle.corr_top.specs.declared.desk.Served.{Served}
use Rattle.corr_top.specs.inner.Origin.{SendsAccepted}
use Rattle.corr_top.specs.inner.Serving.{HasPayShape, are_replies}

-- accounts and a history whose messages can be made
abbrev pub IsSendable : Chart → List Entry → Type 0
IsSendable chart entries = IsBic chart.home × IsLegal chart entries × All HasPayShape entries

-- the text is what is sent of the entries from one place to another, all of it accepted
abbrev pub IsSentOf : Chart → List Entry → ℕ → ℕ → List ℕ → Type 0
IsSentOf chart entries from until text = (text ≡ sent_from chart from (take until entries)) × SendsAccepted chart from (take until entries)

-- each has a reply, and no reply names a place that a history hasn't
pub record HaveReplies (entries : List Entry) (made : List Served) : Type 0 where
  pub replies : List Reply
  pub are : made ≡ are_replies replies
  pub names : All (NamesPlace entries) replies

-- the text is the lines of the replies, with numbers from the first one's on
abbrev pub AreLinesOf : Chart → List Entry → List Served → ℕ → List ℕ → Type 0
AreLinesOf chart entries made first text = (replies : List Reply) → made ≡ are_replies replies → text ≡ numbered (reply_line chart entries) first replies
