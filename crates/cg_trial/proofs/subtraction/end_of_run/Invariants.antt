use Rattle.std.proofs.Common.{length, ◌-◌, ◌≡◌, ◌<◌, ◌≤◌, ◌++◌, replicate, slice_index, take}
use Rattle.cg_trial.proofs.subtraction.end_of_run.Given as goal

abbrev pub invariant-run : goal.invariant-run
invariant-run l = record {
  run : take l.end l.objects ≡ take l.fn.from l.objects ++ replicate (l.end - l.fn.from) (slice_index l.objects l.fn.from);
  behind : l.fn.from < l.end;
  within : l.end ≤ length l.objects;
}

abbrev pub decreases-run : goal.decreases-run
decreases-run l = length l.objects - l.end
