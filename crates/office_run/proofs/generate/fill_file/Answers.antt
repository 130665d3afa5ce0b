use Rattle.std.proofs.Common.{◌≡◌, List, ℕ, ◌+◌, [], ◌∷◌, ◌++◌, Ok, Err, ap, ◌∙◌, subst}
use Rattle.ali_base.specs.declared.names.NodeName.TheVariants.{A, B}
use Rattle.command_desk.specs.MadeReply.{command_of}
use Rattle.generated_script.specs.GeneratedScript.{file_commands, file_text, number_of, records_in}
use Rattle.office_commands.specs.Commands.{Command, Ask, Batch, File}
use Rattle.office_run.specs.Carrying.{Fills, IsLeft}
use Rattle.office_run.proofs.Filling.{fills_stop, fills_then, left_at_once, left_more}
use Rattle.office_run.proofs.generate.fill_file.Goals as goal

pub returns-in_err-file-clause-fills : goal.returns-in_err-file-clause-fills
returns-in_err-file-clause-fills g c =
    let commands = file_commands c.args.script.now.seed c.args.script.now.count (c.args.script.now.made + 1) in
    fills_stop g.D.Disk.state c.args.desk.now c.args.desk.now commands c.args.tally.now c.args.tally.now c.from_residual.result c.from_residual.ensures.0
    (left_at_once g.D.Disk.state c.args.desk.now commands)

-- the four commands of a file
four : (a b last sent : List ℕ) (f g : Command) → a ≡ b → sent ≡ last → f ≡ Ask A 1 sent 0 → g ≡ Ask B 2 sent 0
    → (File a ∷ Batch ∷ f ∷ g ∷ []) ≡ (File b ∷ Batch ∷ Ask A 1 last 0 ∷ Ask B 2 last 0 ∷ [])
four a b last sent f g same to first second =
    ap (λ z. File z ∷ Batch ∷ f ∷ g ∷ []) same
    ∙ ap (λ z. File b ∷ Batch ∷ z ∷ g ∷ []) (first ∙ ap (λ z. Ask A 1 z 0) to)
    ∙ ap (λ z. File b ∷ Batch ∷ Ask A 1 last 0 ∷ z ∷ []) (second ∙ ap (λ z. Ask B 2 z 0) to)

pub returns-in_err-carry-clause-fills : goal.returns-in_err-carry-clause-fills
returns-in_err-carry-clause-fills g c =
    let state = g.D.Disk.state in
    let script = c.args.script.now in
    let last = number_of (records_in script.count (script.made + 1)) in
    let file : List Command = File c.deref.result.now ∷ [] in
    let rest : List Command = Batch ∷ Ask A 1 last 0 ∷ Ask B 2 last 0 ∷ [] in
    let left = left_more state c.args.desk.now c.carry.new.desk file rest c.in_err-carry.ensures.fills in
    let P : List ℕ → Type 0 = λ z. IsLeft state c.args.desk.now c.carry.new.desk (File z ∷ rest) in
    fills_stop state c.args.desk.now c.carry.new.desk (file_commands script.seed script.count (script.made + 1)) c.args.tally.now c.carry.new.tally
    c.from_residual-in_err-carry.result c.from_residual-in_err-carry.ensures.0 (subst P (c.deref.ensures.value ∙ c.in_ok-file.ensures.text) left)

pub returns-in_err-carry-2-clause-fills : goal.returns-in_err-carry-2-clause-fills
returns-in_err-carry-2-clause-fills g c =
    let state = g.D.Disk.state in
    let script = c.args.script.now in
    let t0 = c.args.tally.now in
    let d0 = c.args.desk.now in
    let now = c.carry-2.new.desk in
    let last = number_of (records_in script.count (script.made + 1)) in
    let file : List Command = File c.deref.result.now ∷ [] in
    let batch : List Command = Batch ∷ [] in
    let rest : List Command = Ask A 1 last 0 ∷ Ask B 2 last 0 ∷ [] in
    let two = fills_then state d0 c.carry.new.desk now file batch t0 c.carry.new.tally c.carry-2.new.tally (Err c.in_err-carry-2.field-0.0) c.in_ok-carry.ensures.fills c.in_err-carry-2.ensures.fills in
    let left = left_more state d0 now (file ++ batch) rest two in
    let P : List ℕ → Type 0 = λ z. IsLeft state d0 now (File z ∷ Batch ∷ rest) in
    fills_stop state d0 now (file_commands script.seed script.count (script.made + 1)) t0 c.carry-2.new.tally
    c.from_residual-in_err-carry-2.result c.from_residual-in_err-carry-2.ensures.0 (subst P (c.deref.ensures.value ∙ c.in_ok-file.ensures.text) left)

-- the commands up to the first request
first_three : (a b last sent : List ℕ) (f : Command) → a ≡ b → sent ≡ last → f ≡ Ask A 1 sent 0
    → (File a ∷ Batch ∷ f ∷ Ask B 2 last 0 ∷ []) ≡ (File b ∷ Batch ∷ Ask A 1 last 0 ∷ Ask B 2 last 0 ∷ [])
first_three a b last sent f same to first =
    ap (λ z. File z ∷ Batch ∷ f ∷ Ask B 2 last 0 ∷ []) same ∙ ap (λ z. File b ∷ Batch ∷ z ∷ Ask B 2 last 0 ∷ []) (first ∙ ap (λ z. Ask A 1 z 0) to)

pub returns-in_err-carry-3-clause-fills : goal.returns-in_err-carry-3-clause-fills
returns-in_err-carry-3-clause-fills g c =
    let state = g.D.Disk.state in
    let script = c.args.script.now in
    let t0 = c.args.tally.now in
    let d0 = c.args.desk.now in
    let now = c.carry-3.new.desk in
    let last = number_of (records_in script.count (script.made + 1)) in
    let file : List Command = File c.deref.result.now ∷ [] in
    let batch : List Command = Batch ∷ [] in
    let at_a : List Command = command_of c.ask.result ∷ [] in
    let rest : List Command = Ask B 2 last 0 ∷ [] in
    let two = fills_then state d0 c.carry.new.desk c.carry-2.new.desk file batch t0 c.carry.new.tally c.carry-2.new.tally (Ok tt) c.in_ok-carry.ensures.fills c.in_ok-carry-2.ensures.fills in
    let three = fills_then state d0 c.carry-2.new.desk now (file ++ batch) at_a t0 c.carry-2.new.tally c.carry-3.new.tally (Err c.in_err-carry-3.field-0.0) two c.in_err-carry-3.ensures.fills in
    let left = left_more state d0 now (file ++ batch ++ at_a) rest three in
    let is = first_three c.deref.result.now (file_text script.seed script.count (script.made + 1)) last c.in_ok-file.file.last (command_of c.ask.result)
    (c.deref.ensures.value ∙ c.in_ok-file.ensures.text) c.in_ok-file.ensures.last c.ask.ensures in
    let P : List Command → Type 0 = λ z. IsLeft state d0 now z in
    fills_stop state d0 now (file_commands script.seed script.count (script.made + 1)) t0 c.carry-3.new.tally
    c.from_residual-in_err-carry-3.result c.from_residual-in_err-carry-3.ensures.0 (subst P is left)

pub returns-clause-fills : goal.returns-clause-fills
returns-clause-fills g c =
    let state = g.D.Disk.state in
    let script = c.args.script.now in
    let t0 = c.args.tally.now in
    let d0 = c.args.desk.now in
    let last = number_of (records_in script.count (script.made + 1)) in
    let file : List Command = File c.deref.result.now ∷ [] in
    let batch : List Command = Batch ∷ [] in
    let at_a : List Command = command_of c.ask.result ∷ [] in
    let at_b : List Command = command_of c.ask-2.result ∷ [] in
    let two = fills_then state d0 c.carry.new.desk c.carry-2.new.desk file batch t0 c.carry.new.tally c.carry-2.new.tally (Ok tt) c.in_ok-carry.ensures.fills c.in_ok-carry-2.ensures.fills in
    let three = fills_then state d0 c.carry-2.new.desk c.carry-3.new.desk (file ++ batch) at_a t0 c.carry-2.new.tally c.carry-3.new.tally (Ok tt) two c.in_ok-carry-3.ensures.fills in
    let all = fills_then state d0 c.carry-3.new.desk c.carry-4.new.desk (file ++ batch ++ at_a) at_b t0 c.carry-3.new.tally c.carry-4.new.tally c.carry-4.result three c.carry-4.ensures.fills in
    let is = four c.deref.result.now (file_text script.seed script.count (script.made + 1)) last c.in_ok-file.file.last (command_of c.ask.result) (command_of c.ask-2.result)
    (c.deref.ensures.value ∙ c.in_ok-file.ensures.text) c.in_ok-file.ensures.last c.ask.ensures c.ask-2.ensures in
    let P : List Command → Type 0 = λ z. Fills state d0 c.carry-4.new.desk z t0 c.carry-4.new.tally c.carry-4.result in
    subst P is all
