use Rattle.std.proofs.Common.{subst, sym}
use Rattle.toml.specs.View.{view}
use Rattle.plant_file.specs.Draft.{IsSoundDraft}
use Rattle.plant_file.proofs.NoFaults.{no_faults}
use Rattle.plant_file.proofs.SoundDrafts.{sound_draft}
use Rattle.plant_file.proofs.read.named_draft.Goals as goal

pub draft_of-requires : goal.draft_of-requires
draft_of-requires c = c.requires.names (no_faults (view c.args.top.now) c.requires.sound).twice

pub draft_with_columns-requires : goal.draft_with_columns-requires
draft_with_columns-requires c =
    subst IsSoundDraft (sym c.in_ok-plant.ensures) (sound_draft (view c.args.top.now) c.requires.sound)
