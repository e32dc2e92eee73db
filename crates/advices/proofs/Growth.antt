-- The messages of one order more.
use Rattle.std.proofs.Common.{◌≡◌, ℕ, ◌+◌, ◌<◌, List, [], ◌∷◌, ◌++◌, length, get_or, take, sym, ap, ◌∙◌, arith, subst}
use Rattle.std.proofs.lemmas.List.{length-take-le, take_more}
use Rattle.day_model.specs.Chart.{Chart}
use Rattle.day_model.specs.declared.pay.Order.{Order}
use Rattle.day_model.specs.declared.pay.Pay.{Pay}
use Rattle.advices.specs.Messages.{order_message, messages_from}
use Rattle.advices.specs.inner.Messages.{AllReadBack, OrderReadsBack}

module _ (chart : Chart) (pay : Pay) (place : ℕ) where
  messages-append : (k n : ℕ) (orders : List Order) (order : Order) → n ≡ k + length orders
      → messages_from chart pay place k (orders ++ order ∷ []) ≡ messages_from chart pay place k orders ++ order_message chart pay place n order ∷ []
  messages-append k n [] order same = let e : k ≡ n = omega (arith, same) in ap (λ (m : ℕ). order_message chart pay place m order ∷ []) e
  messages-append k n (first ∷ orders) order same =
      ap (λ (ms : List (List ℕ)). order_message chart pay place k first ∷ ms) (messages-append (k + 1) n orders order (omega (arith, same)))

  -- the messages so far, and that of the next order
  pub messages-more : (d : Order) (orders items : List Order) (i k : ℕ) (text : List ℕ) (before after : List (List ℕ)) → items ≡ orders
      → i < length items → k ≡ 1 + i
      → before ≡ messages_from chart pay place 1 (take i orders) → text ≡ order_message chart pay place k (get_or items i d) → after ≡ before ++ text ∷ []
      → after ≡ messages_from chart pay place 1 (take (i + 1) orders)
  messages-more d orders items i k text before after same lt number b t a =
      let order : Order = get_or items i d in
      let more : take (i + 1) items ≡ take i items ++ order ∷ [] = take_more items i d lt in
      let count : k ≡ 1 + length (take i items) = omega (arith, number, length-take-le i items (omega arith)) in
      let front : before ≡ messages_from chart pay place 1 (take i items) =
      b ∙ ap (λ (os : List Order). messages_from chart pay place 1 (take i os)) (sym same) in
      a ∙ ap (λ (m : List ℕ). before ++ m ∷ []) t
      ∙ ap (λ (ms : List (List ℕ)). ms ++ order_message chart pay place k order ∷ []) front
      ∙ sym (messages-append 1 k (take i items) order count) ∙ ap (messages_from chart pay place 1) (sym more)
      ∙ ap (λ (os : List Order). messages_from chart pay place 1 (take (i + 1) os)) same

  back-append : (k n : ℕ) (orders : List Order) (order : Order) → n ≡ k + length orders → AllReadBack chart pay place k orders
      → OrderReadsBack chart pay place n order → AllReadBack chart pay place k (orders ++ order ∷ [])
  back-append k n [] order same all back = let e : n ≡ k = omega (arith, same) in (subst (λ (m : ℕ). OrderReadsBack chart pay place m order) e back, tt)
  back-append k n (first ∷ orders) order same all back = (all.0, back-append (k + 1) n orders order (omega (arith, same)) all.1 back)

  -- and each is read back
  pub back-more : (d : Order) (orders items : List Order) (i k : ℕ) → items ≡ orders → i < length items → k ≡ 1 + i
      → AllReadBack chart pay place 1 (take i orders) → OrderReadsBack chart pay place k (get_or items i d)
      → AllReadBack chart pay place 1 (take (i + 1) orders)
  back-more d orders items i k same lt number all back =
      let order : Order = get_or items i d in
      let more : take i items ++ order ∷ [] ≡ take (i + 1) items = sym (take_more items i d lt) in
      let count : k ≡ 1 + length (take i items) = omega (arith, number, length-take-le i items (omega arith)) in
      let front : AllReadBack chart pay place 1 (take i items) = subst (λ (os : List Order). AllReadBack chart pay place 1 (take i os)) (sym same) all in
      subst (λ (os : List Order). AllReadBack chart pay place 1 (take (i + 1) os)) same
      (subst (AllReadBack chart pay place 1) more (back-append 1 k (take i items) order count front back))
