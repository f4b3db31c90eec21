use Rattle.plant_model.proofs.place.write_element.Goals as goal

pub returns : goal.returns
returns c = c.format.ensures.ok
