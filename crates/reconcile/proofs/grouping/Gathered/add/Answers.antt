use Rattle.std.proofs.Common.{◌≡◌, ℕ, ◌<◌, ◌≤◌, List, length, cond, subst, sym, ap, ◌∙◌, arith}
use Rattle.std.specs.Str.{bytes_eq}
use Rattle.std.proofs.Math.ListN.{set}
use Rattle.std.proofs.lemmas.Result.{on_ok_weaker}
use Rattle.mt950.specs.declared.page.Page950.{Page950}
use Rattle.reconcile.specs.inner.Gathering.{page_account, open_at, place_after, place_for_page, room_in}
use Rattle.reconcile.specs.inner.Keys.{short_of}
use Rattle.reconcile.proofs.Bounded.{account-short}
use Rattle.reconcile.proofs.Gathering.{gathered-more, place-within}
use Rattle.reconcile.proofs.grouping.Gathered.add.Goals as goal

pub short-account-requires : goal.short-account-requires
short-account-requires c =
    let size : 36 < 9223372036854775808 = omega arith in
    let byte : 36 ≤ 256 = omega arith in
    (size, (subst (λ (text : List ℕ). length text < 36) (sym c.bytes.ensures) (account-short c.args.page c.requires.given), byte))

pub index_mut-requires : goal.index_mut-requires
index_mut-requires c =
    let old = c.args.self.now in
    let page = c.args.page in
    let account : c.short-account.result ≡ page_account page = c.short-account.ensures ∙ ap (short_of 36) c.bytes.ensures in
    let place : c.in_ok-at.at ≡ place_for_page (open_at old (page_account page)) old.pieces.items = c.in_ok-at.ensures.place ∙ ap (λ (a : List ℕ). place_for_page (open_at old a) old.pieces.items) account in
    let room : c.place_for.new.self.pieces.items ≡ room_in (open_at old (page_account page)) old.pieces.items = c.in_ok-at.ensures.room ∙ ap (λ (a : List ℕ). room_in (open_at old a) old.pieces.items) account in
    let pieces : c.note.new.self.pieces.items ≡ room_in (open_at old (page_account page)) old.pieces.items = ap (λ pieces. pieces.items) c.note.ensures.pieces ∙ room in
    let within : c.in_ok-at.at < length c.note.new.self.pieces.items =
    subst (λ (k : ℕ). k < length c.note.new.self.pieces.items) (sym place)
    (subst (λ (ps : List (List Page950)). place_for_page (open_at old (page_account page)) old.pieces.items < length ps) (sym pieces) (place-within c.requires.so_far.0 old page c.requires.so_far.1)) in
    omega (arith, within, c.note.new.self.pieces.ok.0)

pub returns : goal.returns
returns c =
    let old = c.args.self.now in
    let page = c.args.page in
    let account : c.short-account.result ≡ page_account page = c.short-account.ensures ∙ ap (short_of 36) c.bytes.ensures in
    let place : c.in_ok-at.at ≡ place_for_page (open_at old (page_account page)) old.pieces.items = c.in_ok-at.ensures.place ∙ ap (λ (a : List ℕ). place_for_page (open_at old a) old.pieces.items) account in
    let room : c.place_for.new.self.pieces.items ≡ room_in (open_at old (page_account page)) old.pieces.items = c.in_ok-at.ensures.room ∙ ap (λ (a : List ℕ). room_in (open_at old a) old.pieces.items) account in
    let pieces : c.note.new.self.pieces.items ≡ room_in (open_at old (page_account page)) old.pieces.items = ap (λ pieces. pieces.items) c.note.ensures.pieces ∙ room in
    on_ok_weaker c.push.result (λ pushed front so.
    gathered-more front old page so _ c.note.new.self.pieces.items c.in_ok-at.at c.index_mut.result.now place pieces c.index_mut.ensures.value
    (ap (λ (item : List Page950). set c.note.new.self.pieces.items c.in_ok-at.at item) pushed)
    (λ other.
    c.in_ok-note.ensures.noted other
    ∙ ap (λ (a : List ℕ). cond (bytes_eq a other) (place_after page.closing.last c.in_ok-at.at) (open_at c.place_for.new.self other)) account
    ∙ ap (λ places. cond (bytes_eq (page_account page) other) (place_after page.closing.last c.in_ok-at.at) (open_at (record { pieces = c.place_for.new.self.pieces; places = places }) other)) c.in_ok-at.ensures.noted)) c.push.ensures.ok
