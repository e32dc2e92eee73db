-- What a piece goes on with where a message may begin.
use Rattle.std.specs.Prelude.{◌≡◌, ◌≤◌, ◌⊎◌, ℕ, Bool, true, false, List, [], ◌++◌, length, take, drop}
use Rattle.fin_frame.specs.File.{IsMessage, IsFileOf}
use Rattle.fin_frame.specs.Shown.{is_marked, is_over, stands_apart}
use Rattle.fin_frame.specs.Whole.{is_led}
use Rattle.fin_frame.specs.inner.Whole.{gap_goes_on, IsPart, EndsOpen}
use Rattle.fin_frame.specs.Pieces.{IsFaulty}
use Rattle.fin_frame.specs.declared.next.Next.{Next}
use Rattle.fin_frame.specs.declared.next.Next.TheVariants.{Message, Open, Faulty}

-- bytes that may begin a message, or begin one, of which more must come
abbrev pub IsUnfinished : List ℕ → Type 0
IsUnfinished bytes = IsPart bytes ⊎ (EndsOpen bytes ⊎ IsMessage bytes)

-- where these bytes stand after messages and a gap, they show a fault, or are the last and end within a group
abbrev pub AreFaulty : Bool → List ℕ → Type 0
AreFaulty last bytes =
    (file gap : List ℕ) (messages : List (List ℕ)) → IsFileOf file messages gap → gap_goes_on (is_marked messages gap) bytes ≡ false
    → (is_led bytes ≡ false → stands_apart messages gap ≡ true) → IsFaulty last (file ++ bytes)

-- what bytes are that stand where a message may begin
abbrev pub IsNext : Bool → List ℕ → Next → Type 0
IsNext last bytes (Message len) =
    (len ≤ length bytes) × IsMessage (take len bytes) × ((is_over (drop len bytes) ≡ true) ⊎ ((last ≡ true) × (drop len bytes ≡ [])))
IsNext last bytes Open = (last ≡ false) × IsUnfinished bytes
IsNext last bytes Faulty = AreFaulty last bytes
