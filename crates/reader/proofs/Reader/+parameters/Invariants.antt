use Rattle.std.proofs.Common.{◌-◌, length}
use Rattle.reader.proofs.Reader.+parameters.Given as goal

abbrev pub decreases-parameters : goal.decreases-parameters
decreases-parameters l = length l.self.now.octets - l.self.now.place
