-- What a register master means: a master. Assumes nothing.
--     master_of    where the turns are, and how it stands
use Rattle.orders.specs.Fills.{order_of}
use Rattle.masters.specs.Master.{Master}
use Rattle.driver.specs.declared.master.Driver.{Driver}
use Rattle.driving.specs.States.{known_of}
use Rattle.driving_laws.specs.Meaning.{standing_of}

abbrev pub master_of : Driver → Master
master_of d = record { turn = d.drive.block.turn; standing = standing_of (order_of d.drive.order) (known_of d.drive.state) d.drive.block }
