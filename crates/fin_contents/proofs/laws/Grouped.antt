-- Steps that are read in groups, each of which makes a part: read one after another they come to the same.
use Rattle.std.proofs.Common.{◌≡◌, Result, Ok, Err, refl}
use Rattle.corr_text.specs.First.{◌>>=◌}

-- one step before others
pub steps-joined : {A B C F : Type 0} (r : Result A F) (f : A → Result B F) (g : B → Result C F) → ((r >>= f) >>= g) ≡ (r >>= λ x. f x >>= g)
steps-joined (Ok x) f g = refl
steps-joined (Err e) f g = refl

-- steps that go on alike
pub alike : {A B F : Type 0} (r : Result A F) (f g : A → Result B F) → ((x : A) → f x ≡ g x) → (r >>= f) ≡ (r >>= g)
alike (Ok x) f g same = same x
alike (Err e) f g same = refl

-- three steps that make a part
pub three-apart : {A0 A1 A2 X B F : Type 0} (r0 : Result A0 F) (r1 : Result A1 F) (r2 : Result A2 F) (make : A0 → A1 → A2 → X) (next : X → Result B F) (flat : A0 → A1 → A2 → Result B F)
    → ((a0 : A0) (a1 : A1) (a2 : A2) → next (make a0 a1 a2) ≡ flat a0 a1 a2)
    → ((r0 >>= λ a0. r1 >>= λ a1. r2 >>= λ a2. Ok (make a0 a1 a2)) >>= next) ≡ (r0 >>= λ a0. r1 >>= λ a1. r2 >>= λ a2. flat a0 a1 a2)
three-apart (Err e) r1 r2 make next flat same = refl
three-apart (Ok a0) (Err e) r2 make next flat same = refl
three-apart (Ok a0) (Ok a1) (Err e) make next flat same = refl
three-apart (Ok a0) (Ok a1) (Ok a2) make next flat same = same a0 a1 a2

-- four steps that make a part
pub four-apart : {A0 A1 A2 A3 X B F : Type 0} (r0 : Result A0 F) (r1 : Result A1 F) (r2 : Result A2 F) (r3 : Result A3 F) (make : A0 → A1 → A2 → A3 → X) (next : X → Result B F) (flat : A0 → A1 → A2 → A3 → Result B F)
    → ((a0 : A0) (a1 : A1) (a2 : A2) (a3 : A3) → next (make a0 a1 a2 a3) ≡ flat a0 a1 a2 a3)
    → ((r0 >>= λ a0. r1 >>= λ a1. r2 >>= λ a2. r3 >>= λ a3. Ok (make a0 a1 a2 a3)) >>= next) ≡ (r0 >>= λ a0. r1 >>= λ a1. r2 >>= λ a2. r3 >>= λ a3. flat a0 a1 a2 a3)
four-apart (Err e) r1 r2 r3 make next flat same = refl
four-apart (Ok a0) (Err e) r2 r3 make next flat same = refl
four-apart (Ok a0) (Ok a1) (Err e) r3 make next flat same = refl
four-apart (Ok a0) (Ok a1) (Ok a2) (Err e) make next flat same = refl
four-apart (Ok a0) (Ok a1) (Ok a2) (Ok a3) make next flat same = same a0 a1 a2 a3

-- five steps that make a part
pub five-apart : {A0 A1 A2 A3 A4 X B F : Type 0} (r0 : Result A0 F) (r1 : Result A1 F) (r2 : Result A2 F) (r3 : Result A3 F) (r4 : Result A4 F) (make : A0 → A1 → A2 → A3 → A4 → X) (next : X → Result B F) (flat : A0 → A1 → A2 → A3 → A4 → Result B F)
    → ((a0 : A0) (a1 : A1) (a2 : A2) (a3 : A3) (a4 : A4) → next (make a0 a1 a2 a3 a4) ≡ flat a0 a1 a2 a3 a4)
    → ((r0 >>= λ a0. r1 >>= λ a1. r2 >>= λ a2. r3 >>= λ a3. r4 >>= λ a4. Ok (make a0 a1 a2 a3 a4)) >>= next) ≡ (r0 >>= λ a0. r1 >>= λ a1. r2 >>= λ a2. r3 >>= λ a3. r4 >>= λ a4. flat a0 a1 a2 a3 a4)
five-apart (Err e) r1 r2 r3 r4 make next flat same = refl
five-apart (Ok a0) (Err e) r2 r3 r4 make next flat same = refl
five-apart (Ok a0) (Ok a1) (Err e) r3 r4 make next flat same = refl
five-apart (Ok a0) (Ok a1) (Ok a2) (Err e) r4 make next flat same = refl
five-apart (Ok a0) (Ok a1) (Ok a2) (Ok a3) (Err e) make next flat same = refl
five-apart (Ok a0) (Ok a1) (Ok a2) (Ok a3) (Ok a4) make next flat same = same a0 a1 a2 a3 a4

-- six steps that make a part
pub six-apart : {A0 A1 A2 A3 A4 A5 X B F : Type 0} (r0 : Result A0 F) (r1 : Result A1 F) (r2 : Result A2 F) (r3 : Result A3 F) (r4 : Result A4 F) (r5 : Result A5 F) (make : A0 → A1 → A2 → A3 → A4 → A5 → X) (next : X → Result B F) (flat : A0 → A1 → A2 → A3 → A4 → A5 → Result B F)
    → ((a0 : A0) (a1 : A1) (a2 : A2) (a3 : A3) (a4 : A4) (a5 : A5) → next (make a0 a1 a2 a3 a4 a5) ≡ flat a0 a1 a2 a3 a4 a5)
    → ((r0 >>= λ a0. r1 >>= λ a1. r2 >>= λ a2. r3 >>= λ a3. r4 >>= λ a4. r5 >>= λ a5. Ok (make a0 a1 a2 a3 a4 a5)) >>= next) ≡ (r0 >>= λ a0. r1 >>= λ a1. r2 >>= λ a2. r3 >>= λ a3. r4 >>= λ a4. r5 >>= λ a5. flat a0 a1 a2 a3 a4 a5)
six-apart (Err e) r1 r2 r3 r4 r5 make next flat same = refl
six-apart (Ok a0) (Err e) r2 r3 r4 r5 make next flat same = refl
six-apart (Ok a0) (Ok a1) (Err e) r3 r4 r5 make next flat same = refl
six-apart (Ok a0) (Ok a1) (Ok a2) (Err e) r4 r5 make next flat same = refl
six-apart (Ok a0) (Ok a1) (Ok a2) (Ok a3) (Err e) r5 make next flat same = refl
six-apart (Ok a0) (Ok a1) (Ok a2) (Ok a3) (Ok a4) (Err e) make next flat same = refl
six-apart (Ok a0) (Ok a1) (Ok a2) (Ok a3) (Ok a4) (Ok a5) make next flat same = same a0 a1 a2 a3 a4 a5

-- eight steps that make a part
pub eight-apart : {A0 A1 A2 A3 A4 A5 A6 A7 X B F : Type 0} (r0 : Result A0 F) (r1 : Result A1 F) (r2 : Result A2 F) (r3 : Result A3 F) (r4 : Result A4 F) (r5 : Result A5 F) (r6 : Result A6 F) (r7 : Result A7 F) (make : A0 → A1 → A2 → A3 → A4 → A5 → A6 → A7 → X) (next : X → Result B F) (flat : A0 → A1 → A2 → A3 → A4 → A5 → A6 → A7 → Result B F)
    → ((a0 : A0) (a1 : A1) (a2 : A2) (a3 : A3) (a4 : A4) (a5 : A5) (a6 : A6) (a7 : A7) → next (make a0 a1 a2 a3 a4 a5 a6 a7) ≡ flat a0 a1 a2 a3 a4 a5 a6 a7)
    → ((r0 >>= λ a0. r1 >>= λ a1. r2 >>= λ a2. r3 >>= λ a3. r4 >>= λ a4. r5 >>= λ a5. r6 >>= λ a6. r7 >>= λ a7. Ok (make a0 a1 a2 a3 a4 a5 a6 a7)) >>= next) ≡ (r0 >>= λ a0. r1 >>= λ a1. r2 >>= λ a2. r3 >>= λ a3. r4 >>= λ a4. r5 >>= λ a5. r6 >>= λ a6. r7 >>= λ a7. flat a0 a1 a2 a3 a4 a5 a6 a7)
eight-apart (Err e) r1 r2 r3 r4 r5 r6 r7 make next flat same = refl
eight-apart (Ok a0) (Err e) r2 r3 r4 r5 r6 r7 make next flat same = refl
eight-apart (Ok a0) (Ok a1) (Err e) r3 r4 r5 r6 r7 make next flat same = refl
eight-apart (Ok a0) (Ok a1) (Ok a2) (Err e) r4 r5 r6 r7 make next flat same = refl
eight-apart (Ok a0) (Ok a1) (Ok a2) (Ok a3) (Err e) r5 r6 r7 make next flat same = refl
eight-apart (Ok a0) (Ok a1) (Ok a2) (Ok a3) (Ok a4) (Err e) r6 r7 make next flat same = refl
eight-apart (Ok a0) (Ok a1) (Ok a2) (Ok a3) (Ok a4) (Ok a5) (Err e) r7 make next flat same = refl
eight-apart (Ok a0) (Ok a1) (Ok a2) (Ok a3) (Ok a4) (Ok a5) (Ok a6) (Err e) make next flat same = refl
eight-apart (Ok a0) (Ok a1) (Ok a2) (Ok a3) (Ok a4) (Ok a5) (Ok a6) (Ok a7) make next flat same = same a0 a1 a2 a3 a4 a5 a6 a7
