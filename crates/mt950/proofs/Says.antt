-- What the fields of an MT950 say, place by place.
use Rattle.std.proofs.Common.{◌≡◌, ℕ, List, Ok, refl}
use Rattle.ref_tables.specs.Seen.{Tables}
use Rattle.fin_fields.specs.declared.field.Field.{Field}
use Rattle.fin_layout.specs.Contents.{all_from, in_option, in_place}
use Rattle.fin_contents.specs.Plain.{reference_of, short_line_of}
use Rattle.fin_contents.proofs.laws.Steps.{read-then}
use Rattle.mt950.specs.Balances.{stated_of}
use Rattle.mt950.specs.Entry.{line_of}
use Rattle.mt950.specs.Number.{numbers_of}
use Rattle.mt950.specs.Order.{order_950}
use Rattle.mt950.specs.Page.{said_of}
use Rattle.mt950.specs.declared.said.Said.{Said}

pub record Says (t : Tables) (fs : List Field) (found : List ℕ) (x : Said) : Type 0 where
  pub reference : in_place order_950 fs found 0 reference_of ≡ Ok x.reference
  pub account : in_place order_950 fs found 1 (short_line_of 35) ≡ Ok x.account
  pub numbers : in_place order_950 fs found 2 numbers_of ≡ Ok x.numbers
  pub opening : in_place order_950 fs found 3 (stated_of t) ≡ Ok x.opening
  pub lines : all_from fs 4 (line_of x.opening.decimals) 0 found fs ≡ Ok x.lines
  pub closing : in_place order_950 fs found 5 (stated_of t) ≡ Ok x.closing
  pub available : in_option fs found 6 (stated_of t) ≡ Ok x.available

pub said-says : (t : Tables) (fs : List Field) (found : List ℕ) (x : Said) → said_of t fs found ≡ Ok x → Says t fs found x
unfolding said_of
said-says t fs found x e =
    let a = read-then (in_place order_950 fs found 0 reference_of) _ x e in
    let b = read-then (in_place order_950 fs found 1 (short_line_of 35)) _ x a.2 in
    let c = read-then (in_place order_950 fs found 2 numbers_of) _ x b.2 in
    let d = read-then (in_place order_950 fs found 3 (stated_of t)) _ x c.2 in
    let l = read-then (all_from fs 4 (line_of d.0.decimals) 0 found fs) _ x d.2 in
    let k = read-then (in_place order_950 fs found 5 (stated_of t)) _ x l.2 in
    let v = read-then (in_option fs found 6 (stated_of t)) _ x k.2 in
    let same : record { reference = a.0; account = b.0; numbers = c.0; opening = d.0; lines = l.0; closing = k.0; available = v.0 } ≡ x = cc v.2 in
    rw (← same) (record { reference = a.1; account = b.1; numbers = c.1; opening = d.1; lines = l.1; closing = k.1; available = v.1 })

pub says-said : (t : Tables) (fs : List Field) (found : List ℕ) (x : Said) → Says t fs found x → said_of t fs found ≡ Ok x
unfolding said_of
says-said t fs found x s = rw (s.reference, s.account, s.numbers, s.opening, s.lines, s.closing, s.available) refl
