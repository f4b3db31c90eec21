use Rattle.std.proofs.Common.{refl}
use Rattle.command_line.proofs.words.run_by.Goals as goal

pub returns-in-Whole-clause-command : goal.returns-in-Whole-clause-command
returns-in-Whole-clause-command c = rw (c.in-Whole.is, c.in_ok-plant.ensures) refl

pub returns-in_ok-of-in-Stopped-clause-command : goal.returns-in_ok-of-in-Stopped-clause-command
returns-in_ok-of-in-Stopped-clause-command c =
    rw (c.in-Stopped.is, c.in_ok-plant.ensures, c.in_ok-of-in-Stopped.ensures) refl

pub returns-in_ok-of-in-Stopped-clause-range : goal.returns-in_ok-of-in-Stopped-clause-range
returns-in_ok-of-in-Stopped-clause-range c = (c.requires.range.workers, rw c.in-Stopped.is at c.requires.range.mode)

pub returns-in-Saving-clause-command : goal.returns-in-Saving-clause-command
returns-in-Saving-clause-command c = rw (c.in-Saving.is, c.in_ok-plant.ensures) refl

pub returns-in-Saving-clause-range : goal.returns-in-Saving-clause-range
returns-in-Saving-clause-range c = (c.requires.range.workers, rw c.in-Saving.is at c.requires.range.mode)

pub returns-in-Bounded-clause-command : goal.returns-in-Bounded-clause-command
returns-in-Bounded-clause-command c = rw (c.in-Bounded.is, c.in_ok-plant.ensures) refl

pub returns-in-Bounded-clause-range : goal.returns-in-Bounded-clause-range
returns-in-Bounded-clause-range c = (c.requires.range.workers, rw c.in-Bounded.is at c.requires.range.mode)

pub returns-in-Standing-clause-command : goal.returns-in-Standing-clause-command
returns-in-Standing-clause-command c = rw (c.in-Standing.is, c.in_ok-plant.ensures) refl
