-- What holds of banks. Assumes nothing.
use Rattle.std.proofs.Common.{◌≡◌, ℕ, zero, suc, ◌+◌, ◌<◌, ◌++◌, length, get_or, Some, None, Option, sym, refl, ap, ◌∙◌, arith, length-append}
use Rattle.std.proofs.lemmas.List.{get_or_append_left, get_or-append-add}
use Rattle.bus.specs.Banks.{Bank, Single, Both, each, All, beyond, ask, alter, listed}

module _ {X : Type 0} where
  pub all_each : (P Q : X → Type 0) (f : X → X) → ((x : X) → P x → Q (f x)) → (b : Bank X) → All P b → All Q (each f b)
  all_each P Q f g (Single x) h = g x h
  all_each P Q f g (Both a b) h = (all_each P Q f g a h.0, all_each P Q f g b h.1)

  pub all_made : (Q : X → Type 0) (f : X → X) → ((x : X) → Q (f x)) → (b : Bank X) → All Q (each f b)
  all_made Q f g (Single x) = g x
  all_made Q f g (Both a b) = (all_made Q f g a, all_made Q f g b)

  pub all_imp : (P Q : X → Type 0) → ((x : X) → P x → Q x) → (b : Bank X) → All P b → All Q b
  all_imp P Q g (Single x) h = g x h
  all_imp P Q g (Both a b) h = (all_imp P Q g a h.0, all_imp P Q g b h.1)

  pub all_both : (P Q R : X → Type 0) → ((x : X) → P x → Q x → R x) → (b : Bank X) → All P b → All Q b → All R b
  all_both P Q R g (Single x) h k = g x h k
  all_both P Q R g (Both a b) h k = (all_both P Q R g a h.0 k.0, all_both P Q R g b h.1 k.1)

  pub all_alter : (P : X → Type 0) (f : X → X) → ((x : X) → P x → P (f x)) → (n : ℕ) (b : Bank X) → All P b → All P (alter f n b)
  all_alter P f g zero (Single x) h = g x h
  all_alter P f g (suc n) (Single x) h = h
  all_alter P f g n (Both a b) h =
      elim (beyond n a) as (λ o. All P (elim o [ None ↦ Both (alter f n a) b | Some k ↦ Both a (alter f k b) ]))
      [ None ↦ (all_alter P f g n a h.0, h.1) | Some k ↦ (h.0, all_alter P f g k b h.1) ]

  -- two ways to alter one that come to the same
  pub alter_same : (P : X → Type 0) (f g : X → X) → ((x : X) → P x → f x ≡ g x) → (n : ℕ) (b : Bank X) → All P b → alter f n b ≡ alter g n b
  alter_same P f g e zero (Single x) h = ap Single (e x h)
  alter_same P f g e (suc n) (Single x) h = refl
  alter_same P f g e n (Both a b) h =
      elim (beyond n a) as (λ o. elim o [ None ↦ Both (alter f n a) b | Some k ↦ Both a (alter f k b) ] ≡ elim o [ None ↦ Both (alter g n a) b | Some k ↦ Both a (alter g k b) ])
      [ None ↦ ap (λ v. Both v b) (alter_same P f g e n a h.0) | Some k ↦ ap (λ v. Both a v) (alter_same P f g e k b h.1) ]

  pub alter_none : (f : X → X) → ((x : X) → f x ≡ x) → (n : ℕ) (b : Bank X) → alter f n b ≡ b
  alter_none f e zero (Single x) = ap Single (e x)
  alter_none f e (suc n) (Single x) = refl
  alter_none f e n (Both a b) =
      elim (beyond n a) as (λ o. elim o [ None ↦ Both (alter f n a) b | Some k ↦ Both a (alter f k b) ] ≡ Both a b)
      [ None ↦ ap (λ v. Both v b) (alter_none f e n a) | Some k ↦ ap (λ v. Both a v) (alter_none f e k b) ]

  -- where a number lies
  abbrev pub Lies : {Y : Type 0} → (X → Y) → ℕ → Bank X → Option ℕ → Type 0
  Lies f n b None = n < length (listed f b)
  Lies f n b (Some k) = n ≡ length (listed f b) + k

  pub lies : {Y : Type 0} (f : X → Y) (n : ℕ) (b : Bank X) → Lies f n b (beyond n b)
  lies f zero (Single x) = omega arith
  lies f (suc n) (Single x) = omega arith
  lies f n (Both a b) = go (beyond n a) (lies f n a) (λ k. lies f k b)
    where
      by : (k : ℕ) → n ≡ length (listed f a) + k → (o : Option ℕ) → Lies f k b o → Lies f n (Both a b) o
      by k e None h = omega (arith, length-append (listed f a) (listed f b))
      by k e (Some j) h = omega (arith, length-append (listed f a) (listed f b))

      go : (o : Option ℕ) → Lies f n a o → ((k : ℕ) → Lies f k b (beyond k b)) → Lies f n (Both a b) (elim o [ None ↦ None | Some k ↦ beyond k b ])
      go None h r = omega (arith, length-append (listed f a) (listed f b))
      go (Some k) h r = by k h (beyond k b) (r k)

  -- the one with the number n is the n-th of the list
  pub ask_listed : {Y : Type 0} (d : Y) (f : X → Y) (n : ℕ) (b : Bank X) → ask d f n b ≡ get_or (listed f b) n d
  ask_listed d f zero (Single x) = refl
  ask_listed d f (suc n) (Single x) = refl
  ask_listed d f n (Both a b) = go (beyond n a) (lies f n a) (ask_listed d f n a) (λ k. ask_listed d f k b)
    where
      go : (o : Option ℕ) → Lies f n a o → ask d f n a ≡ get_or (listed f a) n d → ((k : ℕ) → ask d f k b ≡ get_or (listed f b) k d)
          → elim o [ None ↦ ask d f n a | Some k ↦ ask d f k b ] ≡ get_or (listed f a ++ listed f b) n d
      go None h l r = l ∙ sym (get_or_append_left (listed f a) (listed f b) d n h)
      go (Some k) h l r = r k ∙ sym (ap (λ i. get_or (listed f a ++ listed f b) i d) h ∙ get_or-append-add (listed f a) (listed f b) k d)
