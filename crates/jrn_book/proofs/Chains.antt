-- Answers to the pays of a batch, one after another.
use Rattle.std.proofs.Common.{◌≡◌, ℕ, zero, suc, ◌+◌, ◌<◌, ◌≤◌, Bool, true, false, ◌&&◌, ◌||◌, cond, List, [], ◌∷◌, ◌++◌, length, replicate, Option, Some, None, refl, sym, ap, ◌∙◌, subst, arith, length-append}
use Rattle.std.specs.Prelude.{IsSome, is_some, Ok, Err}
use Rattle.std.specs.List.{list_all, list_any}
use Rattle.corr_text.specs.Faults.{Rose}
use Rattle.corr_ids.specs.declared.day.Day.{Day}
use Rattle.day_model.specs.declared.pay.Pay.{Pay}
use Rattle.day_model.specs.declared.entry.Entry.{Entry}
use Rattle.day_model.specs.declared.entry.Outcome.{Outcome}
use Rattle.day_model.specs.Chart.{Chart}
use Rattle.day_model.specs.Next.{entry_of}
use Rattle.jrn_book.specs.Answers.{Answer, AnswerShows, failed_after, history_after}
use Rattle.jrn_book.specs.declared.answer.Committed.TheVariants.{New, Kept}
use Rattle.jrn_book.specs.declared.answer.CommitFault.TheVariants.{Conflict, Full, DiskFault, Broken, Memory}
use Rattle.jrn_book.specs.Batches.{AnswersInTurn, Stage, gate_of, is_disk_fault, is_memory, is_new, stage_after}
use Rattle.jrn_book.specs.inner.Batches.{is_tried}
use Rattle.jrn_book.specs.inner.Drafting.{IsFirstNew}
use Rattle.jrn_book.proofs.Entering.{next_new}

-- one answer more
pub chain_snoc : (chart : Chart) (day : Day) (most at_open now : ℕ) (first last : Stage) (pays : List Pay) (answers : List Answer) (pay : Pay) (answer : Answer)
    → AnswersInTurn chart day most at_open first pays answers last
    → AnswerShows chart last.history pay day (gate_of chart last.history) last.failed at_open last.faults now answer
    → AnswersInTurn chart day most at_open first (pays ++ pay ∷ []) (answers ++ answer ∷ []) (stage_after chart day most last pay answer now)
chain_snoc chart day most at_open now first last [] [] pay answer chain shows =
    subst (λ (s : Stage). AnswersInTurn chart day most at_open s (pay ∷ []) (answer ∷ []) (stage_after chart day most last pay answer now)) chain (now, shows, refl)
chain_snoc chart day most at_open now first last [] (a ∷ answers) pay answer chain shows = absurd chain
chain_snoc chart day most at_open now first last (p ∷ pays) [] pay answer chain shows = absurd chain
chain_snoc chart day most at_open now first last (p ∷ pays) (a ∷ answers) pay answer chain shows =
    (chain.0, chain.1, chain_snoc chart day most at_open now (stage_after chart day most first p a chain.0) last pays answers pay answer chain.2 shows)

-- as many answers as pays
pub chain_length : (chart : Chart) (day : Day) (most at_open : ℕ) (first last : Stage) (pays : List Pay) (answers : List Answer)
    → AnswersInTurn chart day most at_open first pays answers last → length answers ≡ length pays
chain_length chart day most at_open first last [] [] chain = refl
chain_length chart day most at_open first last [] (a ∷ answers) chain = absurd chain
chain_length chart day most at_open first last (p ∷ pays) [] chain = absurd chain
chain_length chart day most at_open first last (p ∷ pays) (a ∷ answers) chain =
    let rest = chain_length chart day most at_open (stage_after chart day most first p a chain.0) last pays answers chain.2 in
    omega (arith, rest)

-- want of memory, for each pay
pub chain_memory : (chart : Chart) (day : Day) (most at_open : ℕ) (stage : Stage) (pays : List Pay) → stage.failed ≡ None
    → AnswersInTurn chart day most at_open stage pays (replicate (length pays) (Err Memory)) stage
chain_memory chart day most at_open stage [] whole = refl
chain_memory chart day most at_open stage (p ∷ pays) whole = (stage.faults, (whole, refl), chain_memory chart day most at_open stage pays whole)

-- the answers of a broken book
pub chain_broken : (chart : Chart) (day : Day) (most at_open now : ℕ) (stage : Stage) (pays : List Pay) → IsSome stage.failed → now ≡ stage.faults → Rose at_open now
    → AnswersInTurn chart day most at_open stage pays (replicate (length pays) (Err (Broken at_open now))) stage
chain_broken chart day most at_open now stage [] failed is rose = refl
chain_broken chart day most at_open now stage (p ∷ pays) failed is rose =
    (stage.faults, (failed, refl, is, rose, refl), chain_broken chart day most at_open now stage pays failed is rose)

-- an answer that isn't New leaves the history
still_there : (chart : Chart) (stage : Stage) (pay : Pay) (day : Day) (at_open now : ℕ) (answer : Answer)
    → AnswerShows chart stage.history pay day (gate_of chart stage.history) stage.failed at_open stage.faults now answer → is_new answer ≡ false
    → history_after chart stage.history pay day answer ≡ stage.history
still_there chart stage pay day at_open now (Ok (New place outcome)) shows other = absurd (cc)
still_there chart stage pay day at_open now (Ok (Kept place outcome)) shows other =
    ap (λ (o : Option ℕ). cond (is_some o) stage.history (stage.history ++ entry_of chart stage.history pay day ∷ [])) shows.1.first
still_there chart stage pay day at_open now (Err fault) shows other = refl

-- the history after answers of which none is New
pub chain_still : (chart : Chart) (day : Day) (most at_open : ℕ) (first last : Stage) (pays : List Pay) (answers : List Answer)
    → AnswersInTurn chart day most at_open first pays answers last → list_any is_new answers ≡ false → last.history ≡ first.history
chain_still chart day most at_open first last [] [] chain none = ap (λ (s : Stage). s.history) chain
chain_still chart day most at_open first last [] (a ∷ answers) chain none = absurd chain
chain_still chart day most at_open first last (p ∷ pays) [] chain none = absurd chain
chain_still chart day most at_open first last (p ∷ pays) (a ∷ answers) chain none =
    by (is_new a) refl (λ rest. chain_still chart day most at_open (stage_after chart day most first p a chain.0) last pays answers chain.2 rest)
  where
    by : (b : Bool) → is_new a ≡ b → (list_any is_new answers ≡ false → last.history ≡ history_after chart first.history p day a) → last.history ≡ first.history
    by true is behind = absurd (let e : (true || list_any is_new answers) ≡ false = ap (λ (b : Bool). b || list_any is_new answers) (sym is) ∙ none in cc)
    by false is behind =
        behind (ap (λ (b : Bool). b || list_any is_new answers) (sym is) ∙ none) ∙ still_there chart first p day at_open chain.0 a chain.1 is

-- after tried answers no commit has failed, and the count of faults is as it was
tried_leaves : (chart : Chart) (most : ℕ) (stage : Stage) (pay : Pay) (day : Day) (at_open now : ℕ) (answer : Answer)
    → AnswerShows chart stage.history pay day (gate_of chart stage.history) stage.failed at_open stage.faults now answer → is_tried answer ≡ true
    → (failed_after most stage.failed day answer ≡ stage.failed) × (now ≡ stage.faults)
tried_leaves chart most stage pay day at_open now (Ok (New place outcome)) shows tried = (refl, shows.5)
tried_leaves chart most stage pay day at_open now (Ok (Kept place outcome)) shows tried = (refl, shows.3)
tried_leaves chart most stage pay day at_open now (Err (Conflict place)) shows tried = (refl, shows.2)
tried_leaves chart most stage pay day at_open now (Err (Full entries end need)) shows tried = (refl, shows.6)
tried_leaves chart most stage pay day at_open now (Err (DiskFault before after)) shows tried = absurd (cc)
tried_leaves chart most stage pay day at_open now (Err (Broken from to)) shows tried = absurd (cc)
tried_leaves chart most stage pay day at_open now (Err Memory) shows tried = absurd (cc)

-- a test that each of several passes
pub both : (a b : Bool) → (a && b) ≡ true → (a ≡ true) × (b ≡ true)
both true b is = (refl, is)
both false b is = absurd (cc)

-- the stage of a batch that failed
abbrev failed_at : Day → ℕ → ℕ → Stage → Stage
failed_at day most after stage = record { history = stage.history; failed = Some record { day = day; most = most }; faults = after }

-- the answers of a batch that failed
abbrev failing : ℕ → ℕ → ℕ → List Answer → List Answer → List Answer
failing at_open before after front rest = front ++ Err (DiskFault before after) ∷ replicate (length rest) (Err (Broken at_open after))

fails_behind : (chart : Chart) (day : Day) (most at_open before after place : ℕ) (outcome : Outcome) (last : Stage) (rest : List Answer) → Rose before after
    → (front : List Answer) (first : Stage) (pays : List Pay) → AnswersInTurn chart day most at_open first pays (front ++ Ok (New place outcome) ∷ rest) last
    → list_all is_tried (front ++ Ok (New place outcome) ∷ rest) ≡ true → list_any is_new front ≡ false → first.failed ≡ None → before ≡ first.faults → first.faults ≡ at_open
    → AnswersInTurn chart day most at_open first pays (failing at_open before after front rest) (failed_at day most after first)
fails_behind chart day most at_open before after place outcome last rest rose [] first [] chain tried none whole same opened = absurd chain
fails_behind chart day most at_open before after place outcome last rest rose [] first (p ∷ pays) chain tried none whole same opened =
    let shows = chain.1 in
    let next = stage_after chart day most first p (Ok (New place outcome)) chain.0 in
    let long : length rest ≡ length pays = chain_length chart day most at_open next last pays rest chain.2 in
    let open_rose : Rose at_open after = subst (λ (n : ℕ). Rose n after) (same ∙ opened) rose in
    let broken = chain_broken chart day most at_open after (failed_at day most after first) pays refl refl open_rose in (
      after,
      (whole, shows.1, shows.2, same, refl, rose),
      subst (λ (n : ℕ). AnswersInTurn chart day most at_open (failed_at day most after first) pays (replicate n (Err (Broken at_open after))) (failed_at day most after first)) (sym long) broken,
    )
fails_behind chart day most at_open before after place outcome last rest rose (a ∷ front) first [] chain tried none whole same opened = absurd chain
fails_behind chart day most at_open before after place outcome last rest rose (a ∷ front) first (p ∷ pays) chain tried none whole same opened =
    here (is_new a) refl (λ behind tried_behind whole_then same_then opened_then. fails_behind chart day most at_open before after place outcome last rest rose front (stage_after chart day most first p a chain.0) pays chain.2 tried_behind behind whole_then same_then opened_then)
  where
    next : Stage
    next = stage_after chart day most first p a chain.0

    here : (b : Bool) → is_new a ≡ b
        → (list_any is_new front ≡ false → list_all is_tried (front ++ Ok (New place outcome) ∷ rest) ≡ true → next.failed ≡ None → before ≡ next.faults → next.faults ≡ at_open
        → AnswersInTurn chart day most at_open next pays (failing at_open before after front rest) (failed_at day most after next))
        → AnswersInTurn chart day most at_open first (p ∷ pays) (failing at_open before after (a ∷ front) rest) (failed_at day most after first)
    here true is inner = absurd (let e : (true || list_any is_new front) ≡ false = ap (λ (b : Bool). b || list_any is_new front) (sym is) ∙ none in cc)
    here false is inner =
        let behind : list_any is_new front ≡ false = ap (λ (b : Bool). b || list_any is_new front) (sym is) ∙ none in
        let each = both (is_tried a) (list_all is_tried (front ++ Ok (New place outcome) ∷ rest)) tried in
        let leaves = tried_leaves chart most first p day at_open chain.0 a chain.1 each.0 in
        let history : next.history ≡ first.history = still_there chart first p day at_open chain.0 a chain.1 is in
        let it = inner behind each.1 (leaves.0 ∙ whole) (same ∙ sym leaves.1) (leaves.1 ∙ opened) in
        let end : failed_at day most after next ≡ failed_at day most after first = ap (λ (h : List Entry). record { history = h; failed = Some record { day = day; most = most }; faults = after }) history in
        (chain.0, chain.1, subst (λ (s : Stage). AnswersInTurn chart day most at_open next pays (failing at_open before after front rest) s) end it)

-- Where the disk fails: those in front of the first new pay keep their answer, it is told the failure, and those behind it that the book
-- is broken.
pub chain_failing : (chart : Chart) (day : Day) (most at_open before after : ℕ) (first last : Stage) (pays : List Pay) (answers front rest : List Answer)
    → AnswersInTurn chart day most at_open first pays answers last → list_all is_tried answers ≡ true → IsFirstNew answers front rest
    → first.failed ≡ None → before ≡ first.faults → first.faults ≡ at_open → Rose before after
    → AnswersInTurn chart day most at_open first pays (front ++ Err (DiskFault before after) ∷ replicate (length rest) (Err (Broken at_open after)))
    (record { history = first.history; failed = Some record { day = day; most = most }; faults = after })
chain_failing chart day most at_open before after first last pays answers front rest chain tried new whole same opened rose =
    fails_behind chart day most at_open before after new.place new.outcome last rest rose front first pays (subst (λ (l : List Answer). AnswersInTurn chart day most at_open first pays l last) new.is chain)
    (subst (λ (l : List Answer). list_all is_tried l ≡ true) new.is tried) new.none whole same opened

-- some answer is New where the history isn't as it was
pub some_new : (chart : Chart) (day : Day) (most at_open : ℕ) (first last : Stage) (pays : List Pay) (answers : List Answer)
    → AnswersInTurn chart day most at_open first pays answers last → (last.history ≡ first.history → ⊥) → list_any is_new answers ≡ true
some_new chart day most at_open first last pays answers chain other = by (list_any is_new answers) refl
  where
    by : (b : Bool) → list_any is_new answers ≡ b → b ≡ true
    by true is = refl
    by false is = absurd (other (chain_still chart day most at_open first last pays answers chain is))

-- a New answer makes the history longer
chain_longer : (chart : Chart) (day : Day) (most at_open : ℕ) (first last : Stage) (pays : List Pay) (answers : List Answer)
    → AnswersInTurn chart day most at_open first pays answers last → (length first.history ≤ length last.history) × (list_any is_new answers ≡ true → length first.history < length last.history)
chain_longer chart day most at_open first last [] [] chain = (omega (arith, ap (λ (s : Stage). length s.history) chain), λ some. absurd (cc (some)))
chain_longer chart day most at_open first last [] (a ∷ answers) chain = absurd chain
chain_longer chart day most at_open first last (p ∷ pays) [] chain = absurd chain
chain_longer chart day most at_open first last (p ∷ pays) (a ∷ answers) chain = by a chain.1 (chain_longer chart day most at_open next last pays answers chain.2)
  where
    next : Stage
    next = stage_after chart day most first p a chain.0

    Longer : ℕ → Answer → Type 0
    Longer n x = (length first.history ≤ length last.history) × ((is_new x || list_any is_new answers) ≡ true → length first.history < length last.history)

    by : (x : Answer) → AnswerShows chart first.history p day (gate_of chart first.history) first.failed at_open first.faults chain.0 x
        → (length (history_after chart first.history p day x) ≤ length last.history) × (list_any is_new answers ≡ true → length (history_after chart first.history p day x) < length last.history)
        → Longer 0 x
    by (Ok (New place outcome)) shows rest =
        let grown : length (history_after chart first.history p day (Ok (New place outcome))) ≡ length first.history + 1 =
        ap length (next_new chart first.history p day shows.1) ∙ length-append first.history (entry_of chart first.history p day ∷ []) in
        let le = rest.0 in
        (omega (arith, grown, le), λ some. omega (arith, grown, le))
    by (Ok (Kept place outcome)) shows rest =
        let same : length (history_after chart first.history p day (Ok (Kept place outcome))) ≡ length first.history = ap length (still_there chart first p day at_open chain.0 (Ok (Kept place outcome)) shows refl) in
        let le = rest.0 in
        (omega (arith, same, le), λ some. let lt = rest.1 some in omega (arith, same, lt))
    by (Err fault) shows rest = rest

-- so no answer is New where it isn't
pub none_new : (chart : Chart) (day : Day) (most at_open : ℕ) (first last : Stage) (pays : List Pay) (answers : List Answer)
    → AnswersInTurn chart day most at_open first pays answers last → last.history ≡ first.history → list_any is_new answers ≡ false
none_new chart day most at_open first last pays answers chain same = by (list_any is_new answers) refl
  where
    by : (b : Bool) → list_any is_new answers ≡ b → b ≡ false
    by true is = let lt = (chain_longer chart day most at_open first last pays answers chain).1 is in absurd (omega (arith, lt, ap length same))
    by false is = refl

-- a tried answer tells of no failure and of no want of memory
tried_apart : (answer : Answer) → is_tried answer ≡ true → (is_disk_fault answer ≡ false) × (is_memory answer ≡ false)
tried_apart (Ok committed) tried = (refl, refl)
tried_apart (Err (Conflict place)) tried = (refl, refl)
tried_apart (Err (Full entries end need)) tried = (refl, refl)
tried_apart (Err (DiskFault before after)) tried = absurd (cc (tried))
tried_apart (Err (Broken from now)) tried = absurd (cc (tried))
tried_apart (Err Memory) tried = absurd (cc (tried))

neither : (a b : Bool) → a ≡ false → b ≡ false → (a || b) ≡ false
neither a b p q = λ i. p i || q i

pub all_tried_apart : (answers : List Answer) → list_all is_tried answers ≡ true → (list_any is_disk_fault answers ≡ false) × (list_any is_memory answers ≡ false)
all_tried_apart [] tried = (refl, refl)
all_tried_apart (a ∷ answers) tried =
    let parts = both (is_tried a) (list_all is_tried answers) tried in
    let here = tried_apart a parts.0 in
    let rest = all_tried_apart answers parts.1 in
    (neither (is_disk_fault a) (list_any is_disk_fault answers) here.0 rest.0, neither (is_memory a) (list_any is_memory answers) here.1 rest.1)

-- answers that are all the same
pub any_same : {A : Type 0} (t : A → Bool) (n : ℕ) (x : A) → t x ≡ false → list_any t (replicate n x) ≡ false
any_same t zero x out = refl
any_same t (suc n) x out = neither (t x) (list_any t (replicate n x)) out (any_same t n x out)

pub all_same : {A : Type 0} (t : A → Bool) (n : ℕ) (x : A) → t x ≡ true → list_all t (replicate n x) ≡ true
all_same t zero x holds = refl
all_same t (suc n) x holds = λ i. holds i && all_same t n x holds i

-- one that passes among others, and none
or_true : (a b : Bool) → b ≡ true → (a || b) ≡ true
or_true true b is = refl
or_true false b is = is

or_false : (a b : Bool) → (a || b) ≡ false → (a ≡ false) × (b ≡ false)
or_false true b is = absurd (cc (is))
or_false false b is = (refl, is)

pub any_here : {A : Type 0} (t : A → Bool) (front rest : List A) (x : A) → t x ≡ true → list_any t (front ++ x ∷ rest) ≡ true
any_here t [] rest x holds = ap (λ (b : Bool). b || list_any t rest) holds
any_here t (y ∷ front) rest x holds = or_true (t y) (list_any t (front ++ x ∷ rest)) (any_here t front rest x holds)

pub none_here : {A : Type 0} (t : A → Bool) (front rest : List A) (x : A) → list_any t front ≡ false → t x ≡ false → list_any t rest ≡ false → list_any t (front ++ x ∷ rest) ≡ false
none_here t [] rest x none out behind = neither (t x) (list_any t rest) out behind
none_here t (y ∷ front) rest x none out behind =
    let parts = or_false (t y) (list_any t front) none in
    neither (t y) (list_any t (front ++ x ∷ rest)) parts.0 (none_here t front rest x parts.1 out behind)

-- in front of the first New, each answer is tried
pub front_tried : (front rest : List Answer) → list_all is_tried (front ++ rest) ≡ true → list_all is_tried front ≡ true
front_tried [] rest tried = refl
front_tried (a ∷ front) rest tried =
    let parts = both (is_tried a) (list_all is_tried (front ++ rest)) tried in
    λ i. parts.0 i && front_tried front rest parts.1 i
