use Rattle.std.proofs.Common.{subst}
use Rattle.vme_captures.specs.Possible.{AgreeEach, sightings}
use Rattle.vme_standings.proofs.JoinedBegins.{power_up}
use Rattle.vme_standings.proofs.JoinedCaptures.{explained, head_runs, never_impossible}
use Rattle.vme_standings.proofs.JoinedHidden.{moved_covers, unseen_covered}
use Rattle.vme_standings.proofs.JoinedLists.{followed, newest_by, newest_somebody}
use Rattle.vme_standings.proofs.JoinedRows.{seen_step, somebody}
use Rattle.vme_standings.proofs.JoinedRuns.{runs, runs_covered}
use Rattle.vme_standings.proofs.JoinedTells.{holder_told, nobody_told, puller_told}
use Rattle.vme_standings.proofs.JoinedWaits.{grant_told, nowhere_told}
use Rattle.vme_standings.proofs.joined_laws.the_bus_stays_covered.Goals as goal

pub returns : goal.returns
returns c = record {
  power_up = λ p pins new ok up. power_up p pins new ok up;
  runs = λ p pins probed h lines low ok probes legal are cannot. runs p ok probed pins probes h legal lines low are cannot;
  running = λ p pins probed h lines low new ok probes legal are high known. runs_covered p ok probed pins probes h legal lines low are high new known;
  moves = λ p pins probed h old new ok legal moved covers. moved_covers p ok probed pins old new moved h legal covers;
  unseen = λ p pins probed h e old new ok probes legal none moved covers. unseen_covered p ok probed pins old new moved h probes e legal none covers;
  made_by = λ p pins probed h e v change old d ok legal s agree covers drivers.
      let among = (seen_step probed p ok pins h e v legal s old covers change agree).by d drivers in
      (somebody d e.driver among, among);
  seen = λ p pins probed h e v change old new ok legal s agree covers behind. (seen_step probed p ok pins h e v legal s old covers change agree).covers new behind;
  followed = λ p pins probed g h changes first behind last ok probes legal agree covers follows moved.
      followed p ok probed pins probes g first covers h legal changes agree behind last follows moved;
  never_nobody = λ p pins probed g h change earlier first behind last d ok probes legal agree covers follows moved drivers.
      newest_somebody p ok probed pins probes g first covers h legal change earlier agree behind last follows moved d drivers;
  named = λ p pins probed g h change earlier s others first behind last d ok probes legal is agree covers follows moved drivers.
      newest_by p ok probed pins probes g first covers h legal change earlier s others is agree behind last follows moved d drivers;
  explained = λ p probed capture g h first behind last ok version probes explains starts follows moved.
      explained p ok probed capture version probes g explains.begins first starts h explains.legal capture.changes explains.shows behind last follows moved;
  possible = λ p probed capture v earlier first behind last d ok version probes ends may starts follows moved drivers.
      let x = may.explains in
      never_impossible p ok probed capture version probes may.before x.begins first starts may.edges x.legal v earlier
      (subst (λ cs. AgreeEach cs (sightings p capture.pins may.before may.edges)) ends x.shows) behind last follows moved d drivers;
  begun = λ p probed capture lines low ok version probes may said cannot.
      head_runs p ok probed capture version probes may.before may.explains.begins lines low said cannot;
  holder = λ p pins h st s covers on. holder_told p pins h st covers s on;
  free = λ p pins h st covers nobody. nobody_told p pins h st covers nobody;
  granted = λ p pins h st n s ok covers at. grant_told p ok h pins st covers n s at;
  nowhere = λ version p pins h st ok legal covers none. nowhere_told p ok h pins st covers version legal none;
  addresser = λ p pins h st s covers on. covers.addressers s on;
  shown = λ p pins h st v covers low is. covers.shown.shown v low is;
  quiet = λ p pins h st covers high. covers.shown.high high;
  puller = λ p pins h st n s covers on low. puller_told p pins h st covers n s on low;
}
