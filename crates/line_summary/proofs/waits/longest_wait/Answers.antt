use Rattle.std.proofs.Common.{◌≡◌, ◌+◌, ◌-◌, length, ap, ◌∙◌, subst, arith}
use Rattle.event_graph.specs.Network.{jobs}
use Rattle.event_graph.specs.Table.{date_in}
use Rattle.line_summary.specs.Waits.{wait, most_wait, worst_job}
use Rattle.line_summary.proofs.WaitLists.{wait-read}
use Rattle.line_summary.proofs.Longest.{IsLongest, IsLongest-begins, IsLongest-longer, IsLongest-stays, IsLongest-most, IsLongest-job}
use Rattle.line_summary.proofs.waits.longest_wait.Goals.{Joined-wait-most, then-wait-most, else-wait-most}
use Rattle.line_summary.proofs.waits.longest_wait.Goals as goal

pub loop-before-init : goal.loop-before-init
loop-before-init c = IsLongest-begins _

-- the wait of the job in hand
wait_is : (c : Joined-wait-most) → c.saturating_sub-wait.result ≡ wait c.args.table.now.graph (date_in c.args.table.now.rows) (c.loop-before.before + 1)
wait_is c =
    wait-read c.args.table.now c.loop-before.before c.stations.result c.saturating_sub-wait.result c.dates-delivered.result.now c.dates-demanded.result.now c.stations.ensures.stations c.dates-delivered.ensures.dates c.dates-demanded.ensures.dates
    (omega (arith, c.saturating_sub-wait.ensures))

pub loop-before-preserved : goal.loop-before-preserved
loop-before-preserved c =
    let d = c.args.table.now in
    let f = wait d.graph (date_in d.rows) in
    let k = c.loop-before.before in
    let so_far = c.loop-before.invariant in
    elim c.if-wait-most.branch [
      | then-wait-most w ↦
          rw (w.most-is, w.job-is) (IsLongest-longer f k c.loop-before.most c.loop-before.job c.saturating_sub-wait.result (wait_is c) w.if-wait-most.true so_far)
      | else-wait-most w ↦
          rw (w.most-is, w.job-is) (IsLongest-stays f k c.loop-before.most c.loop-before.job c.saturating_sub-wait.result (wait_is c) w.if-wait-most.false so_far)
    ]

pub returns : goal.returns
unfolding most_wait worst_job
returns c =
    let d = c.args.table.now in
    let f = wait d.graph (date_in d.rows) in
    let table = c.stations.ensures.least in
    let some_station = table.limits.some_station in
    let long = ap length c.dates-delivered.ensures.dates ∙ table.a_date_each (c.stations.result - 1) (omega (arith, c.stations.ensures.stations)) in
    let e : c.loop-before.before ≡ jobs d.graph = omega (arith, long) in
    let some_job = table.limits.some_job in
    let all = subst (λ n. IsLongest f n c.loop-before.most c.loop-before.job) e c.loop-before.invariant in
    let most = IsLongest-most f (jobs d.graph) c.loop-before.most c.loop-before.job some_job all in
    record { wait = most; job = IsLongest-job f (jobs d.graph) c.loop-before.most c.loop-before.job _ some_job most all }
