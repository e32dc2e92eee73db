-- The layout of a sent message.
use Rattle.std.specs.Prelude.{◌≡◌, ℕ, ◌&&◌, Bool, List, [], ◌∷◌, ◌++◌, map, nat_le, codes, IsTrue}
use Rattle.std.specs.List.{flat_map, list_all}
use Rattle.corr_text.specs.Digits.{padded}
use Rattle.corr_ids.specs.Address.{lt_text}
use Rattle.corr_ids.specs.declared.bic.Bic.{Bic}
use Rattle.corr_ids.specs.declared.address.LtAddress.{LtAddress}
use Rattle.fin_blocks.specs.Forms.{is_plain}
use Rattle.fin_blocks.specs.User.{may_hold, are_distinct}
use Rattle.fin_blocks.specs.Text.{text_in, crlf}
use Rattle.fin_blocks.specs.declared.blocks.Blocks.{Blocks}
use Rattle.fin_blocks.specs.declared.blocks.App.TheVariants.{Sent}

-- the terminal of a bank that has this letter
abbrev pub terminal_of : Bic → ℕ → LtAddress
terminal_of bank letter = record { head = bank.head; lt = letter; branch = bank.branch }

-- block 1: terminal A of the home bank, session and sequence number 0
abbrev pub own_text : Bic → List ℕ
own_text home = codes "{1:F01" ++ lt_text (terminal_of home 65) ++ codes "0000000000}"

-- block 2: the type, X for any terminal of the receiver, normal priority
abbrev pub receiver_text : ℕ → Bic → List ℕ
receiver_text mt to = codes "{2:I" ++ padded 3 mt ++ lt_text (terminal_of to 88) ++ codes "N}"

-- `{`, the number, `:`, the text, `}`
abbrev pub subblock_text : ℕ × List ℕ → List ℕ
subblock_text s = 123 ∷ padded 3 s.0 ++ 58 ∷ s.1 ++ 125 ∷ []

-- block 3 where there is any subblock
abbrev pub user_text : List (ℕ × List ℕ) → List ℕ
user_text [] = []
user_text (s ∷ more) = codes "{3:" ++ flat_map subblock_text (s ∷ more) ++ codes "}"

-- block 4: the lines, each with its end
abbrev pub lines_text : List ℕ → List ℕ
lines_text text = codes "{4:" ++ crlf ++ text ++ codes "-}"

-- a message that is written to send: block 1, block 2, block 3 where there is any subblock, and block 4
unfoldable pub sent_text : Bic → ℕ → Bic → List (ℕ × List ℕ) → List ℕ → List ℕ
sent_text home mt to user text = own_text home ++ receiver_text mt to ++ user_text user ++ lines_text text

-- what such a message says
abbrev pub sent_blocks : Bic → ℕ → Bic → List (ℕ × List ℕ) → List ℕ → Blocks
sent_blocks home mt to user text =
    record { own = terminal_of home 65; app = Sent mt (terminal_of to 88); user = user; text = text; trailers = [] }

-- numbers of up to three digits, no two equal, texts without braces, a UETR under 121
unfoldable pub are_subblocks : List (ℕ × List ℕ) → Bool
are_subblocks user =
    list_all (λ s. nat_le s.0 999 && is_plain s.1 && may_hold s.0 s.1) user && are_distinct (map (λ s. s.0) user)

-- no braces, and lines each ended by CR LF
pub record IsText (text : List ℕ) : Type 0 where
  pub plain : IsTrue (is_plain text)
  pub lines : text_in text ≡ text
