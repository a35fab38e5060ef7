use Rattle.command_words.specs.declared.kind.Kind.TheVariants as kind
use Rattle.command_words.proofs.Commands.{none_of}
use Rattle.command_words.proofs.command.said_by.Goals as goal

pub returns-in_default : goal.returns-in_default
returns-in_default c = none_of c.args.given.now c.args.kind kind.Cut c.in-Cut.is c.in_default.ensures

pub returns-in_default-store_said : goal.returns-in_default-store_said
returns-in_default-store_said c = none_of c.args.given.now c.args.kind kind.Apply c.in-Apply.is c.in_default-store_said.ensures

pub returns-in_default-number_said : goal.returns-in_default-number_said
returns-in_default-number_said c = none_of c.args.given.now c.args.kind kind.Gen c.in-Gen.is c.in_default-number_said.ensures

pub returns-in_default-number_said-2 : goal.returns-in_default-number_said-2
returns-in_default-number_said-2 c = none_of c.args.given.now c.args.kind kind.Trial c.in-Trial.is c.in_default-number_said-2.ensures

pub returns-in_default-path_said : goal.returns-in_default-path_said
returns-in_default-path_said c = none_of c.args.given.now c.args.kind kind.Path c.in-Path.is c.in_default-path_said.ensures

pub returns-in_default-hunt_said : goal.returns-in_default-hunt_said
returns-in_default-hunt_said c = none_of c.args.given.now c.args.kind kind.Hunt c.in-Hunt.is c.in_default-hunt_said.ensures
