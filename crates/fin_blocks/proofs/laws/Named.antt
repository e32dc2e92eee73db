-- What the blocks of a message name meets its grammar.
use Rattle.std.proofs.Common.{◌≡◌, Bool, true, false, cond, IfSome, List, ℕ, Option, Some, None, Result, Ok, Err, refl, subst}
use Rattle.std.specs.Prelude.{IfOk, codes}
use Rattle.std.specs.Option.{option_or}
use Rattle.std.specs.Str.{bytes_eq}
use Rattle.corr_text.specs.Codes.{code}
use Rattle.corr_text.specs.First.{check, or_fault, ◌>>=◌}
use Rattle.corr_ids.specs.Address.{address_of, bank_of, is_lt, lt_of}
use Rattle.corr_ids.specs.Bic.{IsBic}
use Rattle.corr_ids.specs.Day.{◌>>=◌ as ◌onward◌}
use Rattle.corr_ids.specs.Mir.{IsMir, is_mir, mir_of}
use Rattle.corr_ids.specs.declared.address.LtAddress.{LtAddress}
use Rattle.corr_ids.proofs.laws.Spelling.{lt-bank}
use Rattle.fin_blocks.specs.Blocks.{AreNamed, IsApp, ending_of, groups_past, blocks_of, user_of}
use Rattle.fin_blocks.specs.Forms.{app_of, basic_in, basic_of, inside, mir_in, received_in, output_form_of, sent_in, input_form_of}
use Rattle.fin_blocks.specs.Groups.{groups_after, groups_of, next_group}
use Rattle.fin_blocks.specs.Text.{text_of}
use Rattle.fin_blocks.specs.declared.basic.Basic.{Basic}
use Rattle.fin_blocks.specs.declared.blocks.Blocks.{Blocks}
use Rattle.fin_blocks.specs.declared.fault.BlockFault.TheVariants as fault

-- what holds of the last of several steps
pub then : {A B F : Type 0} (P : B → Type 0) (r : Result A F) (f : A → Result B F) → ((x : A) → r ≡ Ok x → IfOk (f x) P) → IfOk (r >>= f) P
then P (Ok x) f p = p x refl
then P (Err e) f p = tt

-- the same where a step reads a part that meets its grammar
then-part : {A B F : Type 0} (Q : A → Type 0) (P : B → Type 0) (o : Option A) (fault : F) (f : A → Result B F) → IfSome o Q → ((x : A) → Q x → IfOk (f x) P) → IfOk (or_fault o fault >>= f) P
then-part Q P (Some x) fault f q p = p x q
then-part Q P None fault f q p = tt

-- ---- options

tested : {A : Type 0} (P : A → Type 0) (t : Bool) (x : A) → (t ≡ true → P x) → IfSome (cond t (Some x) None) P
tested P true x p = p refl
tested P false x p = tt

last-of : {A B : Type 0} (P : B → Type 0) (o : Option A) (f : A → Option B) → ((x : A) → IfSome (f x) P) → IfSome (o onward f) P
last-of P (Some x) f p = p x
last-of P None f p = tt

given : {A B : Type 0} (Q : A → Type 0) (P : B → Type 0) (o : Option A) (f : A → B) → IfSome o Q → ((x : A) → Q x → P (f x)) → IfSome (o onward λ x. Some (f x)) P
given Q P (Some x) f q p = p x q
given Q P None f q p = tt

guarded : {A : Type 0} (P : A → Type 0) (t : Bool) (o : Option A) → IfSome o P → IfSome (cond t o None) P
guarded P true o p = p
guarded P false o p = tt

either : {A : Type 0} (P : A → Type 0) (o q : Option A) → IfSome o P → IfSome q P → IfSome (option_or o q) P
either P (Some x) q a b = a
either P None q a b = b

-- ---- what is read meets its grammar

mir-again : (bs : List ℕ) → IfSome (mir_of bs) IsMir
mir-again bs = tested IsMir (is_mir bs) (record { 0 = bs }) (λ h. rw h refl)

abbrev HasBank : LtAddress → Type 0
HasBank a = IsBic (bank_of a)

bank-again : (bs : List ℕ) → IfSome (lt_of bs) HasBank
bank-again bs = tested HasBank (is_lt bs) (address_of bs) (lt-bank bs)

-- ---- blocks 1 and 2

abbrev BasicForm : Basic → Type 0
BasicForm basic = HasBank basic.own

basic-in-form : (bs : List ℕ) → IfSome (basic_in bs) BasicForm
unfolding basic_in
basic-in-form bs = given HasBank BasicForm _ _ (guarded HasBank _ _ (bank-again _)) (λ own h. h)

basic-form : (group : Option (List ℕ)) → IfSome (basic_of group) BasicForm
basic-form group = last-of BasicForm (inside (codes "{1:F") group) basic_in basic-in-form

received-in-form : (bs : List ℕ) → IfSome (received_in bs) IsApp
unfolding received_in
received-in-form bs = last-of IsApp _ _ (λ mt. given IsMir IsApp _ _ (mir-again _) (λ mir h. h))

sent-in-form : (bs : List ℕ) → IfSome (sent_in bs) IsApp
unfolding sent_in
sent-in-form bs = last-of IsApp _ _ (λ mt. given HasBank IsApp _ _ (bank-again _) (λ to h. h))

app-form : (group : Option (List ℕ)) → IfSome (app_of group) IsApp
app-form group =
    either IsApp (output_form_of group) (input_form_of group)
    (last-of IsApp (inside (codes "{2:O") group) received_in received-in-form)
    (last-of IsApp (inside (codes "{2:I") group) sent_in sent-in-form)

-- ---- all blocks

blocks-form : (m : List ℕ) → IfOk (blocks_of m) AreNamed
unfolding blocks_of
blocks-form m =
    let P : Blocks → Type 0 = AreNamed in
    let first = groups_of m in
    then-part BasicForm P (basic_of (next_group first)) (fault.Bad (code "P01") None) _ (basic-form (next_group first)) (λ basic own.
    then P (check (bytes_eq basic.version (codes "01")) (fault.Bad (code "P02") None)) _ (λ _ _.
    then-part IsApp P (app_of (next_group (groups_after first))) (fault.Bad (code "P03") None) _ (app-form (next_group (groups_after first))) (λ app form.
    then P (or_fault (user_of (groups_after (groups_after first))) (fault.Bad (code "P04") (mir_in app))) _ (λ user _.
    then P (or_fault (text_of (next_group (groups_past (codes "{3:") (groups_after (groups_after first))))) (fault.Bad (code "P05") (mir_in app))) _ (λ text _.
    then P (or_fault (ending_of (groups_after (groups_past (codes "{3:") (groups_after (groups_after first))))) (fault.Bad (code "P06") (mir_in app))) _ (λ trailers _.
    record { own = own; app = form }))))))

-- what is named by the blocks of a message that was read meets its grammar
pub blocks-named : (m : List ℕ) (b : Blocks) → blocks_of m ≡ Ok b → AreNamed b
blocks-named m b e = subst (λ r. IfOk r AreNamed) e (blocks-form m)
