mod Inspecting
