-- Marking the words of a record. Assumes nothing.
use Rattle.std.proofs.Common.{◌≡◌, ℕ, ◌+◌, ◌≤◌, List, [], ◌∷◌, ◌++◌, map, length, sym, ap, ◌∙◌, subst, append_assoc, arith}
use Rattle.std.proofs.lemmas.List.{map_push}
use Rattle.books.specs.declared.Book.{Book}
use Rattle.books.specs.Marks.{Grows}
use Rattle.books.proofs.Growth.{grows_none, grows_more}
use Rattle.reader.specs.declared.Listed.{Listed}
use Rattle.reader.specs.declared.words.Words.{Words}
use Rattle.reader.specs.Words.{Meaning, listed}
use Rattle.reader.specs.Records.{WordsOf}
use Rattle.reader.specs.Cursors.{Left, Moves}

-- the book has gained some of the words, and the others are left
pub record Listing (slots : List ℕ) (before book : Book Listed) (w : Words) : Type 0 where
  pub done : List Meaning
  pub later : List Meaning
  pub words : WordsOf slots (done ++ later)
  pub left : Left w later
  pub grows : Grows before book (map listed done)
  pub room : book.used + length later ≤ length book.places.now

pub listing_start : (slots : List ℕ) (book : Book Listed) (w v : Words) (ws : List Meaning) → WordsOf slots ws → Left w ws → v ≡ w → book.used + length ws ≤ length book.places.now → Listing slots book book v
listing_start slots book w v ws o l e room = record { done = []; later = ws; words = o; left = subst (λ (x : Words). Left x ws) (sym e) l; grows = grows_none book; room = room }

pub listing_more : (slots : List ℕ) (before book next : Book Listed) (w v : Words) (m : Meaning) → Listing slots before book w → Moves w m v → Grows book next (listed m ∷ []) → Listing slots before next v
listing_more slots before book next w v m g moves h =
    let n = moves g.later g.left in
    record {
      done = g.done ++ (m ∷ []);
      later = n.0;
      words = subst (WordsOf slots) (ap (λ (q : List Meaning). g.done ++ q) n.1 ∙ sym (append_assoc g.done (m ∷ []) n.0)) g.words;
      left = n.2;
      grows = subst (Grows before next) (sym (map_push listed g.done m)) (grows_more before book next (map listed g.done) (listed m ∷ []) g.grows h);
      room = omega (arith, g.room, h.used, h.long, ap length n.1);
    }
