-- What values with tracks are told apart by.
use Rattle.std.specs.Coded.{codes}
use Rattle.track_model.specs.Tracks.{coded_home}

pub ruleset track_codes = (codes, coded_home)
