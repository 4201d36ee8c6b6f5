-- Contests in which contenders may be dropped between slots: those that are kept fare as in a contest of their own.
-- Over the general lemma as it stands. Assumes nothing.
use Rattle.std.proofs.Common.{◌≡◌, ℕ, Bool, true, false, cond, ◌⊎◌, List, [], ◌∷◌, sym, refl, ap, ◌∙◌, subst, inl, inr, arith, eqb-true}
use mathlib.Core.Path.{fun_ext}
use mathlib.Core.Option.{Option, none, some}
use Rattle.history.specs.Contest.{Rule, on, Turns, stays, Survives, Polite, Keeps, Carried, heard, Contest, FairStart, Fair, Drops, keep}
use Rattle.history.proofs.General.{polite_on, then_map, is_in, fair, legal_slot}

module _ {M T : Type 0} (G : Turns M T) where
  module _ {I : Type 0} (K : I → Bool) where
    kept_in : (cs : I → Option (Rule M)) (i : I) (s : Rule M) → keep G K cs i ≡ some s → (K i ≡ true) × (cs i ≡ some s)
    kept_in cs i s e = go (K i) refl e
      where
        go : (b : Bool) → K i ≡ b → cond b (cs i) none ≡ some s → (K i ≡ true) × (cs i ≡ some s)
        go true k q = (k, q)
        go false k q = absurd (let z : ◌≡◌ {A = ℕ} 0 1 = cc in omega arith)

    in_kept : (cs : I → Option (Rule M)) (i : I) (s : Rule M) → K i ≡ true → cs i ≡ some s → keep G K cs i ≡ some s
    in_kept cs i s k e = rw k e

    -- the kept alone make the same slot, if one of them stays in
    kept_carried : (t : T) (cs : I → Option (Rule M)) (r : Rule M) (x : M) → Polite G t r → ((i : I) (s : Rule M) → cs i ≡ some s → Keeps G t s)
        → (i : I) (s : Rule M) → K i ≡ true → cs i ≡ some s → stays G t x (s []) ≡ true → Carried G cs r x → Carried G (keep G K cs) r x
    kept_carried t cs r x p ks i s k e st c = record {
      offered = go (G.contended t) refl c.offered;
      below_reply = c.below_reply;
      below = λ j u q. c.below j u (kept_in cs j u q).1;
    }
      where
        go : (b : Bool) → G.contended t ≡ b → (x ≡ r []) ⊎ ((j : I) × (u : Rule M) × (cs j ≡ some u) × (x ≡ u []))
            → (x ≡ r []) ⊎ ((j : I) × (u : Rule M) × (keep G K cs j ≡ some u) × (x ≡ u []))
        go true o w =
            let own = rw o at st in
            inr (i, s, in_kept cs i s k e, sym (G.marks.apart (s []) x (eqb-true (G.marks.rank (s [])) (G.marks.rank x) own)))
        go false o (inl w) = inl w
        go false o (inr w) =
            inl (G.marks.apart x (r []) (omega (arith, c.below_reply, ap G.marks.rank (w.3 ∙ (ks w.0 w.1 w.2).quiet [] tt tt o), G.marks.greatest (r []))))

    kept_next : (t : T) (x : M) (cs cs' : I → Option (Rule M)) → ((i : I) → K i ≡ true → cs' i ≡ heard G t x (cs i)) → (i : I) → keep G K cs' i ≡ heard G t x (keep G K cs i)
    kept_next t x cs cs' f i = go (K i) refl
      where
        go : (b : Bool) → K i ≡ b → cond b (cs' i) none ≡ heard G t x (cond b (cs i) none)
        go true k = f i k
        go false k = refl

    kept_contest : (h : List M) (t : T) (cs : I → Option (Rule M)) (r : Rule M) → Polite G t r
        → (i : I) (s : Rule M) → K i ≡ true → cs i ≡ some s → Survives G t s h → Drops G t K cs r h → Contest G t (keep G K cs) r h
    kept_contest [] t cs r p i s k e v d = d
    kept_contest (x ∷ h) t cs r p i s k e v d =
        let c = kept_carried t cs r x p d.0 i s k e v.0 d.1 in
        let start : FairStart G t (keep G K cs) r = record { polite = p; keeps = λ j u q. d.0 j u (kept_in cs j u q).1; someone = (i, s, in_kept cs i s k e) } in
        let ok = legal_slot G t (keep G K cs) r x start c in (
          c,
          then_map G (h ≡ []) (G.ends x) d.2 (λ w.
              subst (λ (f : I → Option (Rule M)). Contest G (G.next t x) f (on x r) h) (fun_ext (kept_next t x cs w.0 w.1))
              (kept_contest h (G.next t x) w.0 (on x r) (polite_on G t r x ok p) i (on x s) k (w.1 i k ∙ is_in G t x (cs i) s e v.0) v.1 w.2)),
        )

    -- if one that was kept lasts, the contest is fair to all that were kept
    pub fair_to_kept : (h : List M) (t : T) (cs : I → Option (Rule M)) (r : Rule M) → Polite G t r
        → (i : I) (s : Rule M) → K i ≡ true → cs i ≡ some s → Survives G t s h → Drops G t K cs r h → Fair G t (keep G K cs) r h
    fair_to_kept [] t cs r p i s k e v d = absurd d
    fair_to_kept (x ∷ h) t cs r p i s k e v d =
        fair G t (keep G K cs) r (x ∷ h) (record { polite = p; keeps = λ j u q. d.0 j u (kept_in cs j u q).1; someone = (i, s, in_kept cs i s k e) }) (kept_contest (x ∷ h) t cs r p i s k e v d)
