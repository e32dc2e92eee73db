-- A journal that has room for all pays has room for each of them.
use Rattle.std.proofs.Common.{◌≡◌, inl, inr, ℕ, zero, suc, ◌+◌, ◌<◌, ◌≤◌, ◌^◌, All, List, [], ◌∷◌, ◌++◌, length, map, None, Some, refl, sym, ap, ◌∙◌, subst, arith, append_assoc, length-append}
use Rattle.std.specs.Prelude.{slice_get, sum_by}
use Rattle.std.proofs.lemmas.List.Sums.{sum_by-append, sum_by-cons}
use Rattle.std.proofs.lemmas.Option.{none-some, same_Some}
use Rattle.corr_ids.specs.declared.day.Day.{Day}
use Rattle.day_model.specs.declared.entry.Entry.{Entry}
use Rattle.day_model.specs.declared.pay.Pay.{Pay}
use Rattle.day_model.specs.Chart.{AreBy, Chart}
use Rattle.day_model.specs.Legal.{IsLegal}
use Rattle.day_model.specs.Next.{entered_at, entry_of}
use Rattle.jrn_book.specs.Journal.{file_of}
use Rattle.jrn_book.specs.Room.{longest_record}
use Rattle.jrn_book.proofs.laws.Sizes.{file_more, no_longer}
use Rattle.jrn_book.proofs.laws.Items.{by_later}
use Rattle.jrn_codec.specs.Record.{entry_bytes}
use Rattle.corr_top.specs.Booking.{IsEnteredOn, LacksRoomThen}
use Rattle.corr_top.specs.Ready.{HasRoomForAll}
use Rattle.corr_top.proofs.Replying.{get_all}
use Rattle.corr_top.proofs.Serves.{entered_mir, split}

-- ---- sums of lengths

entries_left : (start entered all now : ℕ) → now ≡ start + entered → entered + 1 ≤ all → start + all ≤ 100000 → now ≡ 100000 → ⊥
entries_left start entered all now grown parts room full = omega arith

bytes_left : (start entered longest all own file end need most : ℕ) → file ≤ start + entered → entered + (longest + 5) ≤ all → own ≤ longest → end + 1 ≡ file → need ≡ own + 6 → start + all ≤ most → most < end + need → ⊥
bytes_left start entered longest all own file end need most grown parts short place needs room full = omega arith

-- ---- what pays add

-- the bytes that a pay adds to the file at most
abbrev most_of : Pay → ℕ
most_of pay = longest_record pay + 5

-- the file of a history grows by the longest records of the pays of its entries at most
all_longer : (start one last rest all own : ℕ) → last ≤ start + (5 + own) + rest → own + 5 ≤ one → all ≡ one + rest → last ≤ start + all
all_longer start one last rest all own grown short sums = omega arith

file_all : (chart : Chart) (h es : List Entry) → AreBy (length h) chart → length (file_of chart (h ++ es)) ≤ length (file_of chart h) + sum_by most_of (map (λ e. e.pay) es)
file_all chart h [] by = subst (λ (x : List Entry). length (file_of chart x) ≤ length (file_of chart h) + sum_by most_of []) (sym (Rattle.std.proofs.Common.append-nil h)) (omega arith)
file_all chart h (e ∷ es) by =
    let whole : (h ++ e ∷ []) ++ es ≡ h ++ e ∷ es = append_assoc h (e ∷ []) es in
    let rest = file_all chart (h ++ e ∷ []) es (by_later chart (length h) (length (h ++ e ∷ [])) (omega (arith, length-append h (e ∷ []))) by) in
    let more = file_more chart h e by in
    let grown : length (file_of chart (h ++ e ∷ es)) ≤ length (file_of chart h) + (5 + length (entry_bytes e)) + sum_by most_of (map (λ (x : Entry). x.pay) es) =
    subst (λ (x : List Entry). length (file_of chart x) ≤ length (file_of chart h) + (5 + length (entry_bytes e)) + sum_by most_of (map (λ (y : Entry). y.pay) es)) whole (omega (arith, rest, more)) in
    all_longer (length (file_of chart h)) (most_of e.pay) (length (file_of chart (h ++ e ∷ es))) (sum_by most_of (map (λ (x : Entry). x.pay) es)) (sum_by most_of (map (λ (x : Entry). x.pay) (e ∷ es))) (length (entry_bytes e))
    grown (let s = no_longer e in omega (arith, s)) (sum_by-cons most_of e.pay (map (λ (x : Entry). x.pay) es))

-- ---- pays of different references

-- they stand among these pays, and no two of them have one reference
record AreAmong (some all : List Pay) : Type 0 where
  pub there : (i : ℕ) (p : Pay) → slice_get some i ≡ Some p → (k : ℕ) × (slice_get all k ≡ Some p)
  pub single : (i j : ℕ) (p q : Pay) → slice_get some i ≡ Some p → slice_get some j ≡ Some q → p.mir ≡ q.mir → i ≡ j

-- what isn't this element stands among the others
get_other : (front rest : List Pay) (p q : Pay) (k : ℕ) → (p.mir ≡ q.mir → ⊥) → slice_get (front ++ p ∷ rest) k ≡ Some q → (j : ℕ) × (slice_get (front ++ rest) j ≡ Some q)
get_other [] rest p q zero differs at = absurd (differs (ap (λ (x : Pay). x.mir) (same_Some p q at)))
get_other [] rest p q (suc k) differs at = (k, at)
get_other (x ∷ front) rest p q zero differs at = (zero, at)
get_other (x ∷ front) rest p q (suc k) differs at = let r = get_other front rest p q k differs at in (suc r.0, r.1)

sums_parts : (a b one rest all some : ℕ) → all ≡ a + (one + b) → rest ≡ a + b → some ≤ rest → one + some ≤ all
sums_parts a b one rest all some is parts less = omega arith

-- so they sum to no more
sum_among : (weight : Pay → ℕ) (some all : List Pay) → AreAmong some all → sum_by weight some ≤ sum_by weight all
sum_among weight [] all among = omega arith
sum_among weight (p ∷ some) all among =
    let at = among.there 0 p refl in
    let s = split all at.0 p at.1 in
    let rest : AreAmong some (s.front ++ s.rest) = record {
      there = λ i q here.
          let k = among.there (suc i) q here in
          get_other s.front s.rest p q k.0 (λ same. let e = among.single 0 (suc i) p q refl here same in absurd (omega (arith, e)))
          (subst (λ (l : List Pay). slice_get l k.0 ≡ Some q) s.is k.1);
      single = λ i j q r here there same. let e = among.single (suc i) (suc j) q r here there same in omega (arith, e);
    } in
    let less = sum_among weight some (s.front ++ s.rest) rest in
    let whole : sum_by weight all ≡ sum_by weight s.front + (weight p + sum_by weight s.rest) =
    ap (sum_by weight) s.is ∙ sum_by-append weight s.front (p ∷ s.rest) ∙ ap (λ (n : ℕ). sum_by weight s.front + n) (sum_by-cons weight p s.rest) in
    let here = sum_by-cons weight p some in
    let sum = sums_parts (sum_by weight s.front) (sum_by weight s.rest) (weight p) (sum_by weight (s.front ++ s.rest)) (sum_by weight all) (sum_by weight some) whole (sum_by-append weight s.front s.rest) less in
    omega (arith, here, sum)

sum_ones : (pays : List Pay) → sum_by (λ (p : Pay). 1) pays ≡ length pays
sum_ones [] = refl
sum_ones (p ∷ pays) = let s = sum_by-cons (λ (x : Pay). 1) p pays in let r = sum_ones pays in omega (arith, s, r)

-- what stands in a list that was mapped
get_pay : (es : List Entry) (i : ℕ) (p : Pay) → slice_get (map (λ e. e.pay) es) i ≡ Some p → (e : Entry) × (slice_get es i ≡ Some e) × (e.pay ≡ p)
get_pay [] i p at = absurd (none-some p at)
get_pay (e ∷ es) zero p at = (e, refl, same_Some e.pay p at)
get_pay (e ∷ es) (suc i) p at = get_pay es i p at

get_after : (xs ys : List Entry) (i : ℕ) (e : Entry) → slice_get ys i ≡ Some e → slice_get (xs ++ ys) (length xs + i) ≡ Some e
get_after [] ys i e at = ap (slice_get ys) (omega arith) ∙ at
get_after (x ∷ xs) ys i e at = let n : suc (length xs) + i ≡ suc (length xs + i) = omega arith in ap (slice_get (x ∷ (xs ++ ys))) n ∙ get_after xs ys i e at

-- a pay whose reference is new and the entered ones stand among the pays of the file, each once
among_all : (chart : Chart) (history front : List Entry) (day : Day) (pays : List Pay) (pay : Pay) (place : ℕ) → IsLegal chart (history ++ front) → All (IsEnteredOn day pays) front → slice_get pays place ≡ Some pay
    → entered_at pay.mir (history ++ front) ≡ None → AreAmong (pay ∷ map (λ e. e.pay) front) pays
among_all chart history front day pays pay place legal added at new = record { there = there; single = single }
  where
    there : (i : ℕ) (p : Pay) → slice_get (pay ∷ map (λ e. e.pay) front) i ≡ Some p → (k : ℕ) × (slice_get pays k ≡ Some p)
    there zero p here = (place, at ∙ here)
    there (suc i) p here =
        let e = get_pay front i p here in
        let a = get_all (IsEnteredOn day pays) front i e.0 added e.1 in (a.place, a.pay_is ∙ ap (λ (x : Pay). Some x) e.2)

    is_new : (i : ℕ) (p : Pay) → slice_get (map (λ e. e.pay) front) i ≡ Some p → p.mir ≡ pay.mir → ⊥
    is_new i p here same =
        let e = get_pay front i p here in
        entered_mir (history ++ front) pay.mir (length history + i) e.0 (get_after history front i e.0 e.1) (ap (λ (x : Pay). x.mir) e.2 ∙ same) new

    single : (i j : ℕ) (p q : Pay) → slice_get (pay ∷ map (λ e. e.pay) front) i ≡ Some p → slice_get (pay ∷ map (λ e. e.pay) front) j ≡ Some q → p.mir ≡ q.mir → i ≡ j
    single zero zero p q here also same = refl
    single zero (suc j) p q here also same = absurd (is_new j q also (sym same ∙ ap (λ (x : Pay). x.mir) (sym (same_Some pay p here))))
    single (suc i) zero p q here also same = absurd (is_new i p here (same ∙ ap (λ (x : Pay). x.mir) (sym (same_Some pay q also))))
    single (suc i) (suc j) p q here also same =
        let d = get_pay front i p here in
        let e = get_pay front j q also in
        let mirs : d.0.pay.mir ≡ e.0.pay.mir = ap (λ (x : Pay). x.mir) d.2 ∙ same ∙ ap (λ (x : Pay). x.mir) (sym e.2) in
        let s = legal.rules.single (length history + i) (length history + j) d.0 e.0 (get_after history front i d.0 d.1) (get_after history front j e.0 e.1) mirs in omega (arith, s)

-- no pay finds no room
pub has_room : (chart : Chart) (history : List Entry) (pays : List Pay) (day : Day) (left : List Entry) (entries end need : ℕ) → AreBy (length history) chart → HasRoomForAll chart history pays
    → (lacks : LacksRoomThen chart history pays day left entries end need) → IsLegal chart (history ++ lacks.had.front) → All (IsEnteredOn day pays) lacks.had.front → ⊥
has_room chart history pays day left entries end need by room lacks legal added =
    let now = history ++ lacks.had.front in
    let some = map (λ (e : Entry). e.pay) lacks.had.front in
    let among = among_all chart history lacks.had.front day pays lacks.pay lacks.place legal added lacks.pay_is lacks.had.finds.new in
    let bytes = sum_among most_of (lacks.pay ∷ some) pays among in
    let ones = sum_among (λ (p : Pay). 1) (lacks.pay ∷ some) pays among in
    let of_pay = sum_by-cons most_of lacks.pay some in
    let count = sum_ones (lacks.pay ∷ some) in
    let all = sum_ones pays in
    let long : length some ≡ length lacks.had.front = Rattle.std.proofs.lemmas.List.length-map lacks.had.front (λ (e : Entry). e.pay) in
    elim (lacks.had.finds.full) [
      | inl full ↦ entries_left (length history) (length lacks.had.front) (length pays) (length now) (length-append history lacks.had.front) (omega (arith, ones, count, all, long)) room.entries full
      | inr full ↦ bytes_left (length (file_of chart history)) (sum_by most_of some) (longest_record lacks.pay) (sum_by most_of pays)
          (length (entry_bytes (entry_of chart now lacks.pay day))) (length (file_of chart now)) end need (2 ^ 30)
          (file_all chart history lacks.had.front by) (omega (arith, bytes, of_pay)) (no_longer (entry_of chart now lacks.pay day)) lacks.had.finds.end_is lacks.had.finds.need_is room.bytes full
    ]
