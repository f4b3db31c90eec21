use Rattle.std.proofs.Common.{refl, inl}
use Rattle.std.specs.Prelude.{Ok}
use Rattle.plant_file.specs.Draft.{demands_file}
use Rattle.live_plant.proofs.TwoFiles.{AreBoth, first_fails, second_fails, both_read}
use Rattle.live_plant.proofs.files.read_files_of.Goals as goal

pub returns-in_err-demands-clause-makes : goal.returns-in_err-demands-clause-makes
returns-in_err-demands-clause-makes g c =
    let d = c.args.draft.now in
    first_fails g.S.Store.tells (g.S.Store.shown c.args.store.now) (g.S.Store.shown c.read_named.new.store) _ (demands_file d) d.times_file AreBoth c.in_err-demands.field-0.0 c.from_residual.result
    c.from_residual.ensures.1 c.demands_file.ensures c.in_err-demands.ensures.makes

pub returns-in_err-times-clause-makes : goal.returns-in_err-times-clause-makes
returns-in_err-times-clause-makes g c =
    let d = c.args.draft.now in
    second_fails g.S.Store.tells (g.S.Store.shown c.args.store.now) (g.S.Store.shown c.read_named.new.store) (g.S.Store.shown c.read_named-2.new.store) _ (demands_file d) _ d.times_file AreBoth c.in_ok-demands.demands c.in_err-times.field-0.0 c.from_residual-in_err-times.result
    c.from_residual-in_err-times.ensures.1 c.demands_file.ensures c.times_file.ensures.name c.in_ok-demands.ensures.makes c.in_err-times.ensures.makes

pub returns-clause-makes : goal.returns-clause-makes
returns-clause-makes g c =
    let d = c.args.draft.now in
    let demands = c.in_ok-demands.demands in
    let times = c.in_ok-times.times in
    both_read g.S.Store.tells (g.S.Store.shown c.args.store.now) (g.S.Store.shown c.read_named.new.store) (g.S.Store.shown c.read_named-2.new.store) _ (demands_file d) _ d.times_file AreBoth demands times (Ok (record { demands = demands; times = times }))
    c.demands_file.ensures c.times_file.ensures.name c.in_ok-demands.ensures.makes c.in_ok-times.ensures.makes (inl refl) tt
