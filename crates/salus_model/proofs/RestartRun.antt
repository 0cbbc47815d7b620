-- A run with a crash of the client and a restart, with real records and tags.
use Rattle.std.proofs.Common.{List, [], ◌∷◌, false}
use Rattle.std.specs.Prelude.{None}
use Rattle.salus_types.specs.declared.names.Sender.TheVariants as sender
use Rattle.schedule_text.specs.declared.schedule.Volume.{Volume}
use Rattle.schedule_text.specs.declared.schedule.Event.{Event}
use Rattle.schedule_text.specs.declared.schedule.Event.TheVariants as event
use Rattle.salus_model.specs.declared.trace.Request.TheVariants as request
use Rattle.salus_model.specs.declared.trace.Handed.TheVariants as handed
use Rattle.salus_model.specs.declared.trace.TraceStep.{TraceStep}
use Rattle.salus_model.specs.Following.{Posted}

abbrev pub volume_here : Volume
volume_here = record { geometry = record { regions_log = 0; height = 0; block = 1; replicas = 1 }; key = 107 ∷ [] }

abbrev pub events_here : List Event
events_here =
    event.Write (record { block = 0; bytes = 7 ∷ [] } ∷ [])
    ∷ event.Settle 100
    ∷ event.ClientCrash
    ∷ event.Read 0
    ∷ event.Restart 2
    ∷ event.Settle 100
    ∷ event.Read 0
    ∷ event.Barrier
    ∷ event.Settle 10 ∷ []

abbrev pub posts_here : List Posted
posts_here =
    record { from = sender.Client; to = sender.Node (record { region = 0; replica = 0 }); bytes = 4 ∷ 0 ∷ 0 ∷ 0 ∷ 0 ∷ 0 ∷ 0 ∷ 0 ∷ 1 ∷ 0 ∷ 0 ∷ 0 ∷ 1 ∷ 0 ∷ 0 ∷ 0 ∷ 1 ∷ 0 ∷ 0 ∷ 0 ∷ 0 ∷ 0 ∷ 0 ∷ 0 ∷ 0 ∷ 0 ∷ 0 ∷ 0 ∷ 0 ∷ [] }
    ∷ record { from = sender.Node (record { region = 0; replica = 0 }); to = sender.Client; bytes = 5 ∷ 0 ∷ 0 ∷ 0 ∷ 0 ∷ 0 ∷ 0 ∷ 0 ∷ 1 ∷ 0 ∷ 0 ∷ 0 ∷ 1 ∷ 0 ∷ 0 ∷ 0 ∷ 1 ∷ 0 ∷ 0 ∷ 0 ∷ 0 ∷ 0 ∷ 0 ∷ 0 ∷ 0 ∷ 0 ∷ 0 ∷ 0 ∷ 0 ∷ 0 ∷ 1 ∷ 0 ∷ 0 ∷ [] }
    ∷ record { from = sender.Client; to = sender.Node (record { region = 0; replica = 0 }); bytes = 1 ∷ 1 ∷ 0 ∷ 0 ∷ 0 ∷ 0 ∷ 0 ∷ 0 ∷ 0 ∷ 1 ∷ 0 ∷ 0 ∷ 0 ∷ 0 ∷ 0 ∷ 0 ∷ 0 ∷ 1 ∷ 0 ∷ 0 ∷ 0 ∷ 0 ∷ 0 ∷ 0 ∷ 0 ∷ 0 ∷ 0 ∷ 0 ∷ 0 ∷ 0 ∷ 1 ∷ 0 ∷ 0 ∷ 0 ∷ 0 ∷ 0 ∷ 0 ∷ 0 ∷ 1 ∷ 1 ∷ 0 ∷ 0 ∷ 46 ∷ 205 ∷ 138 ∷ 107 ∷ 125 ∷ 40 ∷ 69 ∷ 84 ∷ 102 ∷ 89 ∷ 173 ∷ 76 ∷ 244 ∷ 67 ∷ 83 ∷ 60 ∷ 249 ∷ 33 ∷ 177 ∷ 157 ∷ 200 ∷ 31 ∷ 168 ∷ 57 ∷ 52 ∷ 232 ∷ 56 ∷ 33 ∷ 180 ∷ 223 ∷ 220 ∷ 183 ∷ 46 ∷ 205 ∷ 138 ∷ 107 ∷ 125 ∷ 40 ∷ 69 ∷ 84 ∷ 102 ∷ 89 ∷ 173 ∷ 76 ∷ 244 ∷ 67 ∷ 83 ∷ 60 ∷ 249 ∷ 33 ∷ 177 ∷ 157 ∷ 200 ∷ 31 ∷ 168 ∷ 57 ∷ 52 ∷ 232 ∷ 56 ∷ 33 ∷ 180 ∷ 223 ∷ 220 ∷ 183 ∷ 1 ∷ 0 ∷ 0 ∷ 0 ∷ 1 ∷ 7 ∷ 76 ∷ 98 ∷ 174 ∷ 64 ∷ 104 ∷ 249 ∷ 90 ∷ 49 ∷ 210 ∷ 1 ∷ 9 ∷ 184 ∷ 16 ∷ 153 ∷ 0 ∷ 240 ∷ 212 ∷ 241 ∷ 234 ∷ 99 ∷ 234 ∷ 237 ∷ 26 ∷ 211 ∷ 54 ∷ 237 ∷ 157 ∷ 127 ∷ 211 ∷ 216 ∷ 184 ∷ 232 ∷ [] }
    ∷ record { from = sender.Node (record { region = 0; replica = 0 }); to = sender.Node (record { region = 0; replica = 0 }); bytes = 2 ∷ 0 ∷ 0 ∷ 0 ∷ 0 ∷ 0 ∷ 0 ∷ 0 ∷ 1 ∷ 0 ∷ 0 ∷ 0 ∷ 0 ∷ 0 ∷ 0 ∷ 0 ∷ 1 ∷ 0 ∷ 0 ∷ 46 ∷ 205 ∷ 138 ∷ 107 ∷ 125 ∷ 40 ∷ 69 ∷ 84 ∷ 102 ∷ 89 ∷ 173 ∷ 76 ∷ 244 ∷ 67 ∷ 83 ∷ 60 ∷ 249 ∷ 33 ∷ 177 ∷ 157 ∷ 200 ∷ 31 ∷ 168 ∷ 57 ∷ 52 ∷ 232 ∷ 56 ∷ 33 ∷ 180 ∷ 223 ∷ 220 ∷ 183 ∷ [] }
    ∷ record { from = sender.Node (record { region = 0; replica = 0 }); to = sender.Client; bytes = 3 ∷ 0 ∷ 0 ∷ 0 ∷ 0 ∷ 0 ∷ 0 ∷ 0 ∷ 1 ∷ 0 ∷ 0 ∷ 0 ∷ 0 ∷ 0 ∷ 0 ∷ 0 ∷ 1 ∷ [] }
    ∷ record { from = sender.Node (record { region = 0; replica = 0 }); to = sender.Node (record { region = 0; replica = 0 }); bytes = 3 ∷ 0 ∷ 0 ∷ 0 ∷ 0 ∷ 0 ∷ 0 ∷ 0 ∷ 1 ∷ 0 ∷ 0 ∷ 0 ∷ 0 ∷ 0 ∷ 0 ∷ 0 ∷ 1 ∷ [] }
    ∷ record { from = sender.Client; to = sender.Node (record { region = 0; replica = 0 }); bytes = 6 ∷ 0 ∷ 0 ∷ 0 ∷ 0 ∷ 0 ∷ 0 ∷ 0 ∷ 2 ∷ [] }
    ∷ record { from = sender.Node (record { region = 0; replica = 0 }); to = sender.Client; bytes = 7 ∷ 0 ∷ 0 ∷ 0 ∷ 0 ∷ 0 ∷ 0 ∷ 0 ∷ 2 ∷ 0 ∷ 0 ∷ 0 ∷ 0 ∷ 0 ∷ 0 ∷ 0 ∷ 1 ∷ 0 ∷ 0 ∷ 0 ∷ 1 ∷ 1 ∷ 0 ∷ 0 ∷ 0 ∷ 0 ∷ 0 ∷ 0 ∷ 0 ∷ 1 ∷ 0 ∷ 0 ∷ 0 ∷ 0 ∷ 0 ∷ 0 ∷ 0 ∷ 0 ∷ 0 ∷ 0 ∷ 0 ∷ 0 ∷ 0 ∷ 0 ∷ 0 ∷ 0 ∷ 0 ∷ 0 ∷ 0 ∷ 0 ∷ 1 ∷ 0 ∷ 0 ∷ 0 ∷ 0 ∷ 0 ∷ 0 ∷ 0 ∷ 0 ∷ 1 ∷ 0 ∷ 0 ∷ 150 ∷ 162 ∷ 150 ∷ 210 ∷ 36 ∷ 242 ∷ 133 ∷ 198 ∷ 123 ∷ 238 ∷ 147 ∷ 195 ∷ 15 ∷ 138 ∷ 48 ∷ 145 ∷ 87 ∷ 240 ∷ 218 ∷ 163 ∷ 93 ∷ 197 ∷ 184 ∷ 126 ∷ 65 ∷ 11 ∷ 120 ∷ 99 ∷ 10 ∷ 9 ∷ 207 ∷ 199 ∷ 150 ∷ 162 ∷ 150 ∷ 210 ∷ 36 ∷ 242 ∷ 133 ∷ 198 ∷ 123 ∷ 238 ∷ 147 ∷ 195 ∷ 15 ∷ 138 ∷ 48 ∷ 145 ∷ 87 ∷ 240 ∷ 218 ∷ 163 ∷ 93 ∷ 197 ∷ 184 ∷ 126 ∷ 65 ∷ 11 ∷ 120 ∷ 99 ∷ 10 ∷ 9 ∷ 207 ∷ 199 ∷ 0 ∷ 140 ∷ 119 ∷ 171 ∷ 248 ∷ 71 ∷ 181 ∷ 155 ∷ 64 ∷ 158 ∷ 94 ∷ 69 ∷ 184 ∷ 124 ∷ 206 ∷ 178 ∷ 133 ∷ 80 ∷ 56 ∷ 10 ∷ 98 ∷ 244 ∷ 239 ∷ 213 ∷ 92 ∷ 75 ∷ 226 ∷ 86 ∷ 26 ∷ 19 ∷ 146 ∷ 55 ∷ 48 ∷ 0 ∷ 0 ∷ 0 ∷ 1 ∷ 0 ∷ 1 ∷ 0 ∷ 0 ∷ 0 ∷ 0 ∷ 1 ∷ 1 ∷ 0 ∷ 0 ∷ 0 ∷ 0 ∷ 0 ∷ 0 ∷ 0 ∷ 1 ∷ 0 ∷ 0 ∷ 0 ∷ 0 ∷ 0 ∷ 0 ∷ 0 ∷ 1 ∷ 0 ∷ 0 ∷ 0 ∷ 0 ∷ 0 ∷ 0 ∷ 0 ∷ 0 ∷ 0 ∷ 0 ∷ 0 ∷ 0 ∷ 1 ∷ 0 ∷ 0 ∷ 0 ∷ 0 ∷ 0 ∷ 0 ∷ 0 ∷ 1 ∷ 1 ∷ 0 ∷ 0 ∷ 46 ∷ 205 ∷ 138 ∷ 107 ∷ 125 ∷ 40 ∷ 69 ∷ 84 ∷ 102 ∷ 89 ∷ 173 ∷ 76 ∷ 244 ∷ 67 ∷ 83 ∷ 60 ∷ 249 ∷ 33 ∷ 177 ∷ 157 ∷ 200 ∷ 31 ∷ 168 ∷ 57 ∷ 52 ∷ 232 ∷ 56 ∷ 33 ∷ 180 ∷ 223 ∷ 220 ∷ 183 ∷ 46 ∷ 205 ∷ 138 ∷ 107 ∷ 125 ∷ 40 ∷ 69 ∷ 84 ∷ 102 ∷ 89 ∷ 173 ∷ 76 ∷ 244 ∷ 67 ∷ 83 ∷ 60 ∷ 249 ∷ 33 ∷ 177 ∷ 157 ∷ 200 ∷ 31 ∷ 168 ∷ 57 ∷ 52 ∷ 232 ∷ 56 ∷ 33 ∷ 180 ∷ 223 ∷ 220 ∷ 183 ∷ 1 ∷ 0 ∷ 0 ∷ 0 ∷ 1 ∷ 7 ∷ 76 ∷ 98 ∷ 174 ∷ 64 ∷ 104 ∷ 249 ∷ 90 ∷ 49 ∷ 210 ∷ 1 ∷ 9 ∷ 184 ∷ 16 ∷ 153 ∷ 0 ∷ 240 ∷ 212 ∷ 241 ∷ 234 ∷ 99 ∷ 234 ∷ 237 ∷ 26 ∷ 211 ∷ 54 ∷ 237 ∷ 157 ∷ 127 ∷ 211 ∷ 216 ∷ 184 ∷ 232 ∷ [] }
    ∷ record { from = sender.Client; to = sender.Node (record { region = 0; replica = 0 }); bytes = 8 ∷ 1 ∷ 0 ∷ 0 ∷ 0 ∷ 0 ∷ 0 ∷ 0 ∷ 0 ∷ 2 ∷ 0 ∷ 0 ∷ 0 ∷ 0 ∷ 0 ∷ 0 ∷ 0 ∷ 1 ∷ 0 ∷ 0 ∷ 0 ∷ 0 ∷ 0 ∷ 0 ∷ 0 ∷ 0 ∷ 0 ∷ 0 ∷ 0 ∷ 0 ∷ 1 ∷ 0 ∷ 0 ∷ 0 ∷ 0 ∷ 0 ∷ 0 ∷ 0 ∷ 1 ∷ 1 ∷ 0 ∷ 0 ∷ 46 ∷ 205 ∷ 138 ∷ 107 ∷ 125 ∷ 40 ∷ 69 ∷ 84 ∷ 102 ∷ 89 ∷ 173 ∷ 76 ∷ 244 ∷ 67 ∷ 83 ∷ 60 ∷ 249 ∷ 33 ∷ 177 ∷ 157 ∷ 200 ∷ 31 ∷ 168 ∷ 57 ∷ 52 ∷ 232 ∷ 56 ∷ 33 ∷ 180 ∷ 223 ∷ 220 ∷ 183 ∷ 46 ∷ 205 ∷ 138 ∷ 107 ∷ 125 ∷ 40 ∷ 69 ∷ 84 ∷ 102 ∷ 89 ∷ 173 ∷ 76 ∷ 244 ∷ 67 ∷ 83 ∷ 60 ∷ 249 ∷ 33 ∷ 177 ∷ 157 ∷ 200 ∷ 31 ∷ 168 ∷ 57 ∷ 52 ∷ 232 ∷ 56 ∷ 33 ∷ 180 ∷ 223 ∷ 220 ∷ 183 ∷ 0 ∷ 152 ∷ 151 ∷ 249 ∷ 168 ∷ 226 ∷ 171 ∷ 127 ∷ 68 ∷ 237 ∷ 93 ∷ 174 ∷ 165 ∷ 21 ∷ 106 ∷ 235 ∷ 202 ∷ 62 ∷ 12 ∷ 10 ∷ 115 ∷ 43 ∷ 50 ∷ 183 ∷ 3 ∷ 40 ∷ 236 ∷ 32 ∷ 111 ∷ 94 ∷ 247 ∷ 101 ∷ 66 ∷ 0 ∷ 0 ∷ 0 ∷ 1 ∷ 0 ∷ 1 ∷ 7 ∷ [] }
    ∷ record { from = sender.Node (record { region = 0; replica = 0 }); to = sender.Client; bytes = 9 ∷ 0 ∷ 0 ∷ 0 ∷ 0 ∷ 0 ∷ 0 ∷ 0 ∷ 2 ∷ [] }
    ∷ record { from = sender.Client; to = sender.Node (record { region = 0; replica = 0 }); bytes = 10 ∷ 0 ∷ 0 ∷ 0 ∷ 0 ∷ 0 ∷ 0 ∷ 0 ∷ 2 ∷ [] }
    ∷ record { from = sender.Node (record { region = 0; replica = 0 }); to = sender.Client; bytes = 11 ∷ 0 ∷ 0 ∷ 0 ∷ 0 ∷ 0 ∷ 0 ∷ 0 ∷ 2 ∷ [] }
    ∷ record { from = sender.Client; to = sender.Node (record { region = 0; replica = 0 }); bytes = 4 ∷ 0 ∷ 0 ∷ 0 ∷ 0 ∷ 0 ∷ 0 ∷ 0 ∷ 2 ∷ 0 ∷ 0 ∷ 0 ∷ 0 ∷ 0 ∷ 0 ∷ 0 ∷ 7 ∷ 0 ∷ 0 ∷ 0 ∷ 0 ∷ 0 ∷ 0 ∷ 0 ∷ 0 ∷ 0 ∷ 0 ∷ 0 ∷ 1 ∷ [] }
    ∷ record { from = sender.Node (record { region = 0; replica = 0 }); to = sender.Client; bytes = 5 ∷ 0 ∷ 0 ∷ 0 ∷ 0 ∷ 0 ∷ 0 ∷ 0 ∷ 2 ∷ 0 ∷ 0 ∷ 0 ∷ 0 ∷ 0 ∷ 0 ∷ 0 ∷ 7 ∷ 0 ∷ 0 ∷ 0 ∷ 0 ∷ 0 ∷ 0 ∷ 0 ∷ 0 ∷ 0 ∷ 0 ∷ 0 ∷ 1 ∷ 0 ∷ 1 ∷ 7 ∷ 0 ∷ [] }
    ∷ []

abbrev pub trace_here : List TraceStep
trace_here =
    record { event = 1; party = sender.Client; handed = handed.Asked (request.Write (record { block = 0; bytes = 7 ∷ [] } ∷ [])); sent = 1; failed = false; loaded = None }
    ∷ record { event = 2; party = sender.Node (record { region = 0; replica = 0 }); handed = handed.Deliver 1; sent = 2; failed = false; loaded = None }
    ∷ record { event = 2; party = sender.Client; handed = handed.Deliver 2; sent = 3; failed = false; loaded = None }
    ∷ record { event = 2; party = sender.Node (record { region = 0; replica = 0 }); handed = handed.Deliver 3; sent = 4; failed = false; loaded = None }
    ∷ record { event = 2; party = sender.Node (record { region = 0; replica = 0 }); handed = handed.Deliver 4; sent = 6; failed = false; loaded = None }
    ∷ record { event = 2; party = sender.Client; handed = handed.Deliver 5; sent = 6; failed = false; loaded = None }
    ∷ record { event = 2; party = sender.Node (record { region = 0; replica = 0 }); handed = handed.Deliver 6; sent = 6; failed = false; loaded = None }
    ∷ record { event = 3; party = sender.Client; handed = handed.ClientCrash; sent = 6; failed = false; loaded = None }
    ∷ record { event = 4; party = sender.Client; handed = handed.Asked (request.Read 0); sent = 6; failed = false; loaded = None }
    ∷ record { event = 5; party = sender.Client; handed = handed.Asked (request.Restart 2); sent = 7; failed = false; loaded = None }
    ∷ record { event = 6; party = sender.Node (record { region = 0; replica = 0 }); handed = handed.Deliver 7; sent = 8; failed = false; loaded = None }
    ∷ record { event = 6; party = sender.Client; handed = handed.Deliver 8; sent = 9; failed = false; loaded = None }
    ∷ record { event = 6; party = sender.Node (record { region = 0; replica = 0 }); handed = handed.Deliver 9; sent = 10; failed = false; loaded = None }
    ∷ record { event = 6; party = sender.Client; handed = handed.Deliver 10; sent = 11; failed = false; loaded = None }
    ∷ record { event = 6; party = sender.Node (record { region = 0; replica = 0 }); handed = handed.Deliver 11; sent = 12; failed = false; loaded = None }
    ∷ record { event = 6; party = sender.Client; handed = handed.Deliver 12; sent = 12; failed = false; loaded = None }
    ∷ record { event = 7; party = sender.Client; handed = handed.Asked (request.Read 0); sent = 13; failed = false; loaded = None }
    ∷ record { event = 8; party = sender.Client; handed = handed.Asked (request.Barrier); sent = 13; failed = false; loaded = None }
    ∷ record { event = 9; party = sender.Node (record { region = 0; replica = 0 }); handed = handed.Deliver 13; sent = 14; failed = false; loaded = None }
    ∷ record { event = 9; party = sender.Client; handed = handed.Deliver 14; sent = 14; failed = false; loaded = None }
    ∷ []
