-- The operator watches the groups so far.
use Rattle.sas_mutex.proofs.Imports.{ℕ, ◌<◌, length, get_or, HasWatchFrom, WatchesMore}
use Rattle.sas_mutex.proofs.watches.Watches.watch_all.Given as goal

abbrev pub invariant-loop-group : goal.invariant-loop-group
invariant-loop-group l = record {
  more : WatchesMore l.operator l.family.kept l.fn.self l.self;
  all : (k d : ℕ) → k < l.group-index → HasWatchFrom l.self.made l.operator (length l.fn.self.made) (get_or l.groups k d);
}
