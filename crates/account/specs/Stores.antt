-- What the code's names of a board's two stores stand for (document 02, K6). Assumes nothing: this is a definition.
use Rattle.rules.specs.Job.{Store, in_attached, in_room}
use Rattle.account.specs.declared.Store.{Store as Named}
use Rattle.account.specs.declared.Store.TheVariants.{Attached, Room}

unfoldable pub stands_for : Named → Store
stands_for Attached = in_attached
stands_for Room = in_room
