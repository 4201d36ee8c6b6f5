-- A register master as it stands. Assumes nothing.
use Rattle.std.proofs.Common.{◌≡◌, ◌≤◌, Bool, true, false, sym, ap, ◌∙◌, subst}
use Rattle.bus.specs.declared.Symbol.{Symbol}
use Rattle.bus.specs.Symbols.{is_stop}
use Rattle.bus.specs.declared.Turn.{Turn}
use Rattle.bus.specs.Turns.{next}
use Rattle.orders.specs.declared.order.Order as code
use Rattle.orders.specs.Fills.{order_of}
use Rattle.progress.specs.Plans.{read_total}
use Rattle.masters.specs.Master as master
use Rattle.masters.specs.Standings as masters
use Rattle.block.specs.declared.Block.{Block}
use Rattle.block.specs.Tasks.{offers, starts}
use Rattle.block.specs.Heard.{heard}
use Rattle.driver.specs.declared.master.Driver.{Driver}
use Rattle.driving.specs.declared.Drive.{Drive}
use Rattle.driving.specs.States.{Known, known_of, Led}
use Rattle.driving.specs.Driving.{heard_known, heard_block, retried, loss_cleared}
use Rattle.driving_laws.specs.Meaning.{standing_of, read_most}
use Rattle.driver.specs.Driver.{master_of}
use Rattle.driving_laws.specs.Agreement.{Sound, Hears, Heard, after_known, after_block}
use Rattle.driving_laws.proofs.Main.{hears_all, offers_all}
use Rattle.driving_laws.proofs.Few.{hears_few}
use Rattle.driving.proofs.Fair.{order_lawful}

pub driver_offers : (d : Driver) → offers d.drive.block ≡ master.offers (master_of d)
driver_offers d = offers_all (order_of d.drive.order) (order_lawful d.drive.order) (known_of d.drive.state) d.drive.block d.sound

driver_hears : (d : Driver) (x : Symbol) → Hears (order_of d.drive.order) (known_of d.drive.state) d.drive.block x
driver_hears d x = hears_all (order_of d.drive.order) (order_lawful d.drive.order) (known_of d.drive.state) d.drive.block x d.sound d.room

-- how a master stands after a slot
pub record After (d : Driver) (x : Symbol) (o : code.Order) (r : Known) (b : Block) : Type 0 where
  pub sound : Sound (order_of o) r b
  pub few : read_most (standing_of (order_of o) r b) ≤ read_total (order_of o)
  pub master_is : record { turn = b.turn; standing = standing_of (order_of o) r b } ≡ master.heard x (master_of d)
  pub clears : is_stop x ≡ true → b.status.ald0 ≡ false

after_is : (d : Driver) (x : Symbol) (r : Known) (b : Block) → Heard (order_of d.drive.order) (known_of d.drive.state) d.drive.block x r b → After d x d.drive.order r b
after_is d x r b w = record {
  sound = w.sound;
  few = subst (λ (st : masters.Standing). read_most st ≤ read_total (order_of d.drive.order)) (sym w.standing) (hears_few (order_of d.drive.order) (known_of d.drive.state).standing d.drive.block.turn d.drive.block.shift (known_of d.drive.state) x d.room);
  master_is = ap (λ (t : Turn). record { turn = t; standing = standing_of (order_of d.drive.order) r b }) w.turn ∙ ap (λ (st : masters.Standing). record { turn = next d.drive.block.turn x; standing = st }) w.standing;
  clears = w.clears;
}

-- the five calls of a slot, one after the other
pub slot_heard : (d : Driver) (x : Symbol) (tried : Bool) (m : Block) (u v w : Drive)
    → tried ≡ starts d.drive.block.task → m ≡ heard d.drive.block x
    → Led (record { block = m; order = d.drive.order; state = d.drive.state }) u (heard_block (order_of d.drive.order) tried x (known_of d.drive.state).standing m) (heard_known (order_of d.drive.order) tried x (known_of d.drive.state).standing m (known_of d.drive.state))
    → Led u v (loss_cleared x u.block) (known_of u.state)
    → Led v w (retried (known_of v.state).standing v.block) (known_of v.state)
    → After d x w.order (known_of w.state) w.block
slot_heard d x tried m u v w et em responds clears retries =
    let ss = order_of d.drive.order in
    let st = (known_of d.drive.state).standing in
    let k : Known = known_of d.drive.state in
    let a : Known = after_known ss k d.drive.block x in
    let R : known_of v.state ≡ a = clears.known_is ∙ responds.known_is ∙ ap (λ (t : Bool). heard_known ss t x st m k) et ∙ ap (λ (b : Block). heard_known ss (starts d.drive.block.task) x st b k) em in
    let B : u.block ≡ heard_block ss (starts d.drive.block.task) x st (heard d.drive.block x) = responds.block_is ∙ ap (λ (t : Bool). heard_block ss t x st m) et ∙ ap (λ (b : Block). heard_block ss (starts d.drive.block.task) x st b) em in
    let E : w.block ≡ after_block ss k d.drive.block x = retries.block_is ∙ ap (λ (b : Block). retried (known_of v.state).standing b) clears.block_is ∙ ap (λ (r : Known). retried r.standing (loss_cleared x u.block)) R ∙ ap (λ (b : Block). retried a.standing (loss_cleared x b)) B in
    subst (λ (o : code.Order). After d x o (known_of w.state) w.block) (sym (retries.order_stands ∙ clears.order_stands ∙ responds.order_stands))
    (subst (λ (r : Known). After d x d.drive.order r w.block) (sym (retries.known_is ∙ R))
    (subst (λ (b : Block). After d x d.drive.order a b) (sym E)
    (after_is d x a (after_block ss k d.drive.block x) (driver_hears d x))))
