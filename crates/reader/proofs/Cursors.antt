-- Words taken one by one. Assumes nothing.
use Rattle.std.proofs.Common.{◌≡◌, suc, List, [], ◌∷◌, length, None, sym, ap, ◌∙◌, subst}
use Rattle.std.specs.Iterator.{Yields, Drains}
use Rattle.reader.specs.declared.Word.{Word}
use Rattle.reader.specs.declared.words.Words.{Words}
use Rattle.reader.specs.Words.{Meaning}
use Rattle.reader.specs.Cursors.{Left, Gives}

taken : (a b c : Words) (xs : List Word) (ws : List Meaning) → Yields Gives a xs b → Gives b None c → Left a ws → length xs ≡ length ws
taken a b c [] ws y g l = sym (ap length (g.0 ws (subst (λ (v : Words). Left v ws) y l)))
taken a b c (x ∷ xs) ws y g l =
    let m = y.1 ws l in
    ap suc (taken y.0 b c xs m.0 y.2 g m.2) ∙ sym (ap length m.1)

-- as many words are taken as were left
pub all_taken : (a : Words) (xs : List Word) (ws : List Meaning) → Drains Gives a xs → Left a ws → length xs ≡ length ws
all_taken a xs ws d = taken a d.1.0 d.0 xs ws d.1.1 d.1.2
