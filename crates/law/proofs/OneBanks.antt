-- Banks: two make one. A slaves' bank offers the least of both, a masters' bank numbers the left first. Assumes nothing.
use Rattle.std.proofs.Common.{◌≡◌, ℕ, zero, suc, ◌+◌, ◌<◌, min, List, [], ◌∷◌, ◌++◌, length, sym, refl, ap, ◌∙◌, inl, inr, suc-add, zero-add, arith}
use Rattle.history.specs.Marks.{Marks, least}
use Rattle.history.specs.Contest.{Rule, Turns, Polite}
use Rattle.bus.specs.Symbols.{symbols}
use Rattle.bus.specs.declared.Turn.{Turn}
use Rattle.masters.specs.Standings.{Standing, contender_in, offered}
use Rattle.law.proofs.One.{least_offer, all_waits, alter}
use Rattle.history.proofs.General.{least_left, least_right, least_either, least_le}

module _ {M : Type 0} (m : Marks M) where
  pub least_rank : (a b : M) → m.rank (least m a b) ≡ min (m.rank a) (m.rank b)
  least_rank a b =
      let le = least_le m a b in
      elim (least_either m a b) [ inl e ↦ omega (arith, ap m.rank e) | inr e ↦ omega (arith, ap m.rank e) ]

  pub least_assoc : (a b c : M) → least m (least m a b) c ≡ least m a (least m b c)
  least_assoc a b c =
      m.apart (least m (least m a b) c) (least m a (least m b c))
      (omega (arith, least_rank (least m a b) c, least_rank a b, least_rank a (least m b c), least_rank b c))

-- two slaves in a bank
pub polite_both : {M T : Type 0} (G : Turns M T) (t : T) (r r' : Rule M) → Polite G t r → Polite G t r' → Polite G t (λ l. least G.marks (r l) (r' l))
polite_both G t r r' p p' = record {
  quiet = λ l f o. least_left G.marks (r l) (r' l) (rw (p'.quiet l f o) (G.marks.greatest (r l))) ∙ p.quiet l f o;
  sound = λ l f o. elim (least_either G.marks (r l) (r' l)) [ inl e ↦ rw e (p.sound l f o) | inr e ↦ rw e (p'.sound l f o) ];
}

-- two masters' banks
pub least_offer_append : (t : Turn) (l r : List Standing) → least_offer t (l ++ r) ≡ least symbols (least_offer t l) (least_offer t r)
least_offer_append t [] r = sym (least_right symbols (least_offer t []) (least_offer t r) (symbols.greatest (least_offer t r)))
least_offer_append t (st ∷ l) r = ap (least symbols (offered (contender_in t st))) (least_offer_append t l r) ∙ sym (least_assoc symbols (offered (contender_in t st)) (least_offer t l) (least_offer t r))

pub all_waits_append : (l r : List Standing) → all_waits (l ++ r) ≡ all_waits l + all_waits r
all_waits_append [] r = omega arith
all_waits_append (st ∷ l) r = omega (arith, all_waits_append l r)

pub alter_left : (f : Standing → Standing) (i : ℕ) (l r : List Standing) → i < length l → alter f i (l ++ r) ≡ alter f i l ++ r
alter_left f i [] r h = absurd (omega arith)
alter_left f zero (st ∷ l) r h = refl
alter_left f (suc i) (st ∷ l) r h = ap {B = List Standing} (λ ms. st ∷ ms) (alter_left f i l r (omega arith))

pub alter_right : (f : Standing → Standing) (i : ℕ) (l r : List Standing) → alter f (length l + i) (l ++ r) ≡ l ++ alter f i r
alter_right f i [] r = rw zero-add
alter_right f i (st ∷ l) r = rw (suc-add (length l) i) (ap {B = List Standing} (λ ms. st ∷ ms) (alter_right f i l r))
