-- The views of the seats: the first one, and what each kind of step makes of them.
use Rattle.std.specs.Prelude.{ℕ, ◌+◌, List, [], ◌∷◌, ◌++◌, length, max, Bool, ◌&&◌, ◌==◌, Option, Some, None, if◌then◌else◌}
use Rattle.day_model.specs.declared.entry.Entry.{Entry}
use Rattle.front_word.specs.declared.view.Act.{Act}
use Rattle.front_word.specs.declared.view.Kept.{Kept}
use Rattle.front_word.specs.declared.view.View.{View}
use Rattle.front_word.specs.declared.view.Of.TheVariants.{Neither, Own, Other}
use Rattle.front_word.specs.declared.view.Role.TheVariants.{Spent, Writer, WriterCopy, Pass, PassCopy}
use Rattle.front_word.specs.inner.Prefix.{longer}

-- no join yet
abbrev pub nothing_kept : Kept
nothing_kept = record { own = []; other = []; own_mark = 0; other_mark = 0; other_seen = 0; number = 0; of_pass = Neither; owed = None }

-- what a seat that is spent knows: nothing
abbrev pub spent_view : View
spent_view = record { role = Spent; number = 0; base = []; known = []; mark = 0; seen = 0; made = 0; owed = None; back = []; kept = nothing_kept }

-- the writer's seat, before its base is named
abbrev pub first_view : View
first_view = record spent_view { role = Writer }

-- the writer starts from these entries
abbrev pub based : List Entry → View → View
based base v = record v { base = base }

-- the writer has published an entry for a pass
abbrev pub published : Act → View → View
published a v = record v { known = v.known ++ a ∷ []; owed = Some a.by }

-- the writer's mark is raised
abbrev pub raised : ℕ → View → View
raised count v = record v { mark = max v.mark count }

-- a pass has seen the word
abbrev pub having_seen : ℕ → View → View
having_seen n v = record v { seen = n }

-- a note of what the writer knows
abbrev pub writer_note : View → View
writer_note v = record v { role = WriterCopy; kept = nothing_kept }

-- a note of what a pass knows
abbrev pub pass_note : View → View
pass_note v = record v { role = PassCopy; kept = nothing_kept }

-- the writer has made one more pass
abbrev pub having_made : View → View
having_made v = record v { made = v.made + 1 }

-- a new pass knows what the writer knows
abbrev pub new_pass : View → View
new_pass v = record v { role = Pass; number = v.made + 1; seen = 0; made = 0; owed = None; back = []; kept = nothing_kept }

-- a pass has read a note of the writer
abbrev pub having_read : View → View → View
having_read p c = record p {
  known = longer p.known c.known;
  mark = max p.mark c.mark;
  kept = record { own = p.known; other = c.known; own_mark = p.mark; other_mark = c.mark; other_seen = 0; number = p.number; of_pass = Own; owed = c.owed };
}

-- nothing is owed any more where the pass knows the entry
abbrev pub owed_after : Option ℕ → ℕ → Bool → Option ℕ
owed_after None number all = None
owed_after (Some k) number all = if (k == number) && all then None else Some k

-- the writer has read a note of a pass
abbrev pub heard : View → View → View
heard v c = record v {
  known = longer v.known c.known;
  mark = max v.mark c.mark;
  owed = owed_after v.owed c.number (length c.known == length v.known);
  kept = record { own = v.known; other = c.known; own_mark = v.mark; other_mark = c.mark; other_seen = c.seen; number = c.number; of_pass = Neither; owed = v.owed };
}

-- the writer has taken a pass back
abbrev pub taken_back : View → View → View
taken_back v p = record v {
  known = longer v.known p.known;
  mark = max v.mark p.mark;
  back = p.number ∷ v.back;
  kept = record { own = v.known; other = p.known; own_mark = v.mark; other_mark = p.mark; other_seen = p.seen; number = p.number; of_pass = Other; owed = v.owed };
}
