-- What a request is about.
use Rattle.std.specs.Prelude.{ℕ, List}
use Rattle.request_model.specs.declared.requests.Request.{Request}
use Rattle.request_model.specs.declared.requests.Request.TheVariants as request

-- the machine that a request is about
abbrev pub machine_of : Request → List ℕ
machine_of (request.Machine machine) = machine
machine_of (request.Commit machine number name) = machine
machine_of (request.Submit machine commit run samples ignored stated) = machine
machine_of (request.Retract machine run) = machine
machine_of (request.Tune machine metric penalty given) = machine
machine_of (request.Calibrate machine test metric factor) = machine
machine_of (request.Segment machine test metric) = machine
machine_of (request.Changes machine test metric) = machine
machine_of (request.Verify machine test metric) = machine
machine_of (request.Regress machine test metric change) = machine
machine_of (request.SetState machine number state) = machine
machine_of (request.Bisect machine lo hi) = machine
machine_of (request.Answer machine number commit status) = machine
machine_of (request.Resume machine number) = machine
machine_of (request.Job machine number) = machine
machine_of (request.Runs machine) = machine
machine_of (request.Report machine json) = machine
