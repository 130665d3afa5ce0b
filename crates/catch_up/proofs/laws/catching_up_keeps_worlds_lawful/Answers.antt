use Rattle.catch_up.proofs.Courses.{catching_up_keeps, caught_up_in_step, on_the_way_lawful}
use Rattle.catch_up.proofs.laws.catching_up_keeps_worlds_lawful.Goals as goal

pub returns-clause-lawful : goal.returns-clause-lawful
returns-clause-lawful c limits bounds before now w v last lawful catches = (catching_up_keeps limits bounds before now last v w lawful catches).0

pub returns-clause-booked : goal.returns-clause-booked
returns-clause-booked c limits bounds before now w v last lawful catches = (catching_up_keeps limits bounds before now last v w lawful catches).1

pub returns-clause-in_step : goal.returns-clause-in_step
returns-clause-in_step c limits bounds before now w v number made lawful catches = caught_up_in_step limits bounds before now w v number made lawful catches

pub returns-clause-on_the_way : goal.returns-clause-on_the_way
returns-clause-on_the_way c limits bounds before now w v lawful on = on_the_way_lawful limits bounds before now w v lawful on
