use Rattle.std.proofs.Common.{◌≡◌, IfSome, ap, rules}
use Rattle.corr_top.specs.declared.words.Command.{Command}
use Rattle.corr_top.specs.declared.words.Command.TheVariants.{Plain, Return, Run, Trial}
use Rattle.corr_top.specs.Commands.{command_of, meaning_of}
use Rattle.corr_top.specs.Ends.{Ends}
use Rattle.corr_top.proofs.Completing.{complete_if}
use Rattle.corr_top.proofs.Ending.{ends_line}
use Rattle.corr_top.proofs.Generating.{tried_texts}
use Rattle.corr_top.proofs.promise.Promised.{promised_if}
use Rattle.corr_top.proofs.command.corr.Goals as goal

pub returns-in-Some-Plain-clause-complete : goal.returns-in-Some-Plain-clause-complete
returns-in-Some-Plain-clause-complete g c =
    let ends : IfSome (command_of c.args.words.now) (λ command. Ends g.S.Source g.D.Disk (meaning_of command) c.args.room c.perform.result.room g.K.Sink c.perform.result.status) = search rules in
    complete_if g.S.Source g.D.Disk g.K.Sink (λ (command : Command). command) (command_of c.args.words.now) c.args.room c.perform.result.room c.perform.result.status ends

pub returns-in-Some-Plain-clause-line : goal.returns-in-Some-Plain-clause-line
returns-in-Some-Plain-clause-line g c =
    ends_line g.S.Source g.D.Disk (meaning_of (Plain c.in-Some-Plain.command)) c.args.room c.perform.result.room g.K.Sink c.perform.result.status c.perform.ensures.ends

pub returns-in-Some-Plain-clause-ends : goal.returns-in-Some-Plain-clause-ends
returns-in-Some-Plain-clause-ends g c = search rules

pub returns-in-Some-Run-clause-ends : goal.returns-in-Some-Run-clause-ends
returns-in-Some-Run-clause-ends g c =
    let ends = c.end.ensures.ends (Run c.in-Some-Run.day c.in-Some-Run.workers c.in-Some-Run.entries) c.args.room c.run-room.ensures.texts in
    search (ends, rules)

pub returns-in-Some-Run-clause-complete : goal.returns-in-Some-Run-clause-complete
returns-in-Some-Run-clause-complete g c =
    let done = c.end.ensures.ends (Run c.in-Some-Run.day c.in-Some-Run.workers c.in-Some-Run.entries) c.args.room c.run-room.ensures.texts in
    let ends : IfSome (command_of c.args.words.now) (λ command. Ends g.S.Source g.D.Disk (meaning_of command) c.args.room c.end.result.room g.K.Sink c.end.result.status) = search (done, rules) in
    complete_if g.S.Source g.D.Disk g.K.Sink (λ (command : Command). command) (command_of c.args.words.now) c.args.room c.end.result.room c.end.result.status ends

pub returns-in-Some-Run-clause-line : goal.returns-in-Some-Run-clause-line
returns-in-Some-Run-clause-line g c =
    let command = Run c.in-Some-Run.day c.in-Some-Run.workers c.in-Some-Run.entries in
    ends_line g.S.Source g.D.Disk (meaning_of command) c.args.room c.end.result.room g.K.Sink c.end.result.status (c.end.ensures.ends command c.args.room c.run-room.ensures.texts)

pub returns-in-Some-Trial-clause-ends : goal.returns-in-Some-Trial-clause-ends
returns-in-Some-Trial-clause-ends g c =
    let t = c.in-Some-Trial in
    let command = Trial t.count t.seed t.workers in
    let ends = c.end-in-Some-Trial.ensures.ends command c.args.room (tried_texts g.S.Source g.D.Disk t.count t.seed t.workers c.args.room c.trial.result c.trial.ensures) in
    search (ends, rules)

pub returns-in-Some-Trial-clause-complete : goal.returns-in-Some-Trial-clause-complete
returns-in-Some-Trial-clause-complete g c =
    let t = c.in-Some-Trial in
    let command = Trial t.count t.seed t.workers in
    let done = c.end-in-Some-Trial.ensures.ends command c.args.room (tried_texts g.S.Source g.D.Disk t.count t.seed t.workers c.args.room c.trial.result c.trial.ensures) in
    let ends : IfSome (command_of c.args.words.now) (λ command. Ends g.S.Source g.D.Disk (meaning_of command) c.args.room c.end-in-Some-Trial.result.room g.K.Sink c.end-in-Some-Trial.result.status) = search (done, rules) in
    complete_if g.S.Source g.D.Disk g.K.Sink (λ (command : Command). command) (command_of c.args.words.now) c.args.room c.end-in-Some-Trial.result.room c.end-in-Some-Trial.result.status ends

pub returns-in-Some-Trial-clause-line : goal.returns-in-Some-Trial-clause-line
returns-in-Some-Trial-clause-line g c =
    let t = c.in-Some-Trial in
    let command = Trial t.count t.seed t.workers in
    ends_line g.S.Source g.D.Disk (meaning_of command) c.args.room c.end-in-Some-Trial.result.room g.K.Sink c.end-in-Some-Trial.result.status
    (c.end-in-Some-Trial.ensures.ends command c.args.room (tried_texts g.S.Source g.D.Disk t.count t.seed t.workers c.args.room c.trial.result c.trial.ensures))

pub returns-in-Some-Plain-clause-promises : goal.returns-in-Some-Plain-clause-promises
returns-in-Some-Plain-clause-promises g c =
    let ends : IfSome (command_of c.args.words.now) (λ command. Ends g.S.Source g.D.Disk (meaning_of command) c.args.room c.perform.result.room g.K.Sink c.perform.result.status) = search rules in
    promised_if g.S.Source g.K.Sink g.D.Disk (λ (command : Command). command) (command_of c.args.words.now) c.args.room c.perform.result.room c.perform.result.status
    (g.met.D.Disk g.world.𝓛 g.world.𝓜 g.world.𝓡 ((λ s x. x), (λ x. x), (λ x. x), λ x. x)).only_now (g.met.D.Disk g.world.𝓛 g.world.𝓜 g.world.𝓡 ((λ s x. x), (λ x. x), (λ x. x), λ x. x)).counts_now c.perform.ensures.honest ends

pub returns-in-Some-Run-clause-promises : goal.returns-in-Some-Run-clause-promises
returns-in-Some-Run-clause-promises g c =
    let done = c.end.ensures.ends (Run c.in-Some-Run.day c.in-Some-Run.workers c.in-Some-Run.entries) c.args.room c.run-room.ensures.texts in
    let ends : IfSome (command_of c.args.words.now) (λ command. Ends g.S.Source g.D.Disk (meaning_of command) c.args.room c.end.result.room g.K.Sink c.end.result.status) = search (done, rules) in
    let honest : g.D.Disk.honest c.end.result.room.disk ≡ g.D.Disk.honest c.args.room.disk = search rules in
    promised_if g.S.Source g.K.Sink g.D.Disk (λ (command : Command). command) (command_of c.args.words.now) c.args.room c.end.result.room c.end.result.status
    (g.met.D.Disk g.world.𝓛 g.world.𝓜 g.world.𝓡 ((λ s x. x), (λ x. x), (λ x. x), λ x. x)).only_now (g.met.D.Disk g.world.𝓛 g.world.𝓜 g.world.𝓡 ((λ s x. x), (λ x. x), (λ x. x), λ x. x)).counts_now honest ends

pub returns-in-Some-Trial-clause-promises : goal.returns-in-Some-Trial-clause-promises
returns-in-Some-Trial-clause-promises g c =
    let t = c.in-Some-Trial in
    let command = Trial t.count t.seed t.workers in
    let done = c.end-in-Some-Trial.ensures.ends command c.args.room (tried_texts g.S.Source g.D.Disk t.count t.seed t.workers c.args.room c.trial.result c.trial.ensures) in
    let ends : IfSome (command_of c.args.words.now) (λ command. Ends g.S.Source g.D.Disk (meaning_of command) c.args.room c.end-in-Some-Trial.result.room g.K.Sink c.end-in-Some-Trial.result.status) = search (done, rules) in
    promised_if g.S.Source g.K.Sink g.D.Disk (λ (command : Command). command) (command_of c.args.words.now) c.args.room c.end-in-Some-Trial.result.room c.end-in-Some-Trial.result.status
    (g.met.D.Disk g.world.𝓛 g.world.𝓜 g.world.𝓡 ((λ s x. x), (λ x. x), (λ x. x), λ x. x)).only_now (g.met.D.Disk g.world.𝓛 g.world.𝓜 g.world.𝓡 ((λ s x. x), (λ x. x), (λ x. x), λ x. x)).counts_now (ap g.D.Disk.honest c.end-in-Some-Trial.ensures.disk) ends

pub returns-in-Some-Return-clause-ends : goal.returns-in-Some-Return-clause-ends
returns-in-Some-Return-clause-ends g c =
    let ends = c.end-in-Some-Return.ensures.ends (Return c.in-Some-Return.place c.in-Some-Return.day) c.args.room c.take_back-room.ensures.texts in
    search (ends, rules)

pub returns-in-Some-Return-clause-complete : goal.returns-in-Some-Return-clause-complete
returns-in-Some-Return-clause-complete g c =
    let done = c.end-in-Some-Return.ensures.ends (Return c.in-Some-Return.place c.in-Some-Return.day) c.args.room c.take_back-room.ensures.texts in
    let ends : IfSome (command_of c.args.words.now) (λ command. Ends g.S.Source g.D.Disk (meaning_of command) c.args.room c.end-in-Some-Return.result.room g.K.Sink c.end-in-Some-Return.result.status) = search (done, rules) in
    complete_if g.S.Source g.D.Disk g.K.Sink (λ (command : Command). command) (command_of c.args.words.now) c.args.room c.end-in-Some-Return.result.room c.end-in-Some-Return.result.status ends

pub returns-in-Some-Return-clause-line : goal.returns-in-Some-Return-clause-line
returns-in-Some-Return-clause-line g c =
    let command = Return c.in-Some-Return.place c.in-Some-Return.day in
    ends_line g.S.Source g.D.Disk (meaning_of command) c.args.room c.end-in-Some-Return.result.room g.K.Sink c.end-in-Some-Return.result.status (c.end-in-Some-Return.ensures.ends command c.args.room c.take_back-room.ensures.texts)

pub returns-in-Some-Return-clause-promises : goal.returns-in-Some-Return-clause-promises
returns-in-Some-Return-clause-promises g c =
    let done = c.end-in-Some-Return.ensures.ends (Return c.in-Some-Return.place c.in-Some-Return.day) c.args.room c.take_back-room.ensures.texts in
    let ends : IfSome (command_of c.args.words.now) (λ command. Ends g.S.Source g.D.Disk (meaning_of command) c.args.room c.end-in-Some-Return.result.room g.K.Sink c.end-in-Some-Return.result.status) = search (done, rules) in
    let honest : g.D.Disk.honest c.end-in-Some-Return.result.room.disk ≡ g.D.Disk.honest c.args.room.disk = search rules in
    promised_if g.S.Source g.K.Sink g.D.Disk (λ (command : Command). command) (command_of c.args.words.now) c.args.room c.end-in-Some-Return.result.room c.end-in-Some-Return.result.status
    (g.met.D.Disk g.world.𝓛 g.world.𝓜 g.world.𝓡 ((λ s x. x), (λ x. x), (λ x. x), λ x. x)).only_now (g.met.D.Disk g.world.𝓛 g.world.𝓜 g.world.𝓡 ((λ s x. x), (λ x. x), (λ x. x), λ x. x)).counts_now honest ends
